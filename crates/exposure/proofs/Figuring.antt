-- Thirty answers of a record are its days where the point is known, and else each is its fault; so the
-- percentile of what was gathered is the figure.
use Rattle.std.proofs.Common.{◌≡◌, ℕ, ◌+◌, ◌<◌, cond, List, length, get_or, ℤ, None, Some, Ok, Err, Option, Result, refl, sym, ap, ◌∙◌, arith}
use Rattle.std.specs.Int.Signed.{le_z}
use Rattle.std.proofs.lemmas.List.FromFn.{fill_by_all}
use Rattle.std.specs.Ordering.{int_cmp}
use Rattle.market.specs.Bounds.{Bounded}
use Rattle.prices.specs.declared.fault.RecordFault.{RecordFault}
use Rattle.prices.specs.Entries.{Entry, known, unknown, on_calendar, answer, Ranged}
use Rattle.ranking.specs.declared.fault.NoDays.{NoDays as Nothing}
use Rattle.ranking.specs.Answer.{percentile_of}
use Rattle.ranking.specs.Order.{upto, int_upto}
use Rattle.exposure.specs.declared.fault.RuleFault.{RuleFault}
use Rattle.exposure.specs.declared.fault.RuleFault.TheVariants.{UnknownPoint, NoDays}
use Rattle.std.specs.Option.{ok_or, unwrap_or}
use Rattle.std.specs.Result.{result_or}
use Rattle.exposure.specs.FigureBounds.{InRange, percentile_within}
use Rattle.exposure.specs.Figures.{days_of, gathered, ranked, figure_at}

ok_same : {A B : Type 0} {x y : A} → ◌≡◌ {A = Result A B} (Ok x) (Ok y) → x ≡ y
ok_same e = cc

module _ (e : Entry) (h : ℕ) where
  -- the days before d are as the record answers them
  abbrev pub Told : List (Option ℤ) → ℕ → Type 0
  Told days d = (length days ≡ 30) × ((j : ℕ) → j + 1 < d → answer e h (j + 1) ≡ Ok (get_or days j None))

all_known : (v : ℕ → ℕ → Option ℤ) (h : ℕ) (days : List (Option ℤ)) → Told (known v) h days 31 → days ≡ days_of v h
unfolding days_of
all_known v h days told = fill_by_all (λ (k : ℕ). cond (on_calendar h (k + 1)) (v h (k + 1)) None) days 30 None told.0 (λ k lt. sym (ok_same {B = RecordFault} (told.1 k (omega arith))))

pub told_all : (e : Entry) (h : ℕ) (days : List (Option ℤ)) → Told e h days 31 → Ok days ≡ gathered e h
told_all (known v) h days told = ap Ok (all_known v h days told)
told_all (unknown l q) h days told = let here = told.1 0 (omega arith) in let z : ◌≡◌ {A = ℕ} 0 1 = cc in absurd (omega arith)

pub told_fault : (e : Entry) (h d : ℕ) (f : RecordFault) → Err f ≡ answer e h d → Err f ≡ gathered e h
told_fault (known v) h d f is = let z : ◌≡◌ {A = ℕ} 0 1 = cc in absurd (omega arith)
told_fault (unknown l q) h d f is = let same : f ≡ record { label = l; point = q; hour = h } = cc in ap Err same

module _ (letter percent point : ℕ) where
  pub figure_fault : (e : Entry) (h : ℕ) (f : RecordFault) → Err f ≡ gathered e h → Err (UnknownPoint f) ≡ figure_at e letter percent point h
  unfolding figure_at
  figure_fault (known v) h f is = let z : ◌≡◌ {A = ℕ} 0 1 = cc in absurd (omega arith)
  figure_fault (unknown l q) h f is = let same : f ≡ record { label = l; point = q; hour = h } = cc in ap (λ (x : RecordFault). Err (UnknownPoint x)) same

  pub figure_ranked : (e : Entry) (h : ℕ) (days : List (Option ℤ)) (r : Result ℤ Nothing) → Ok days ≡ gathered e h → r ≡ percentile_of (upto int_cmp) days percent → ranked letter point h r ≡ figure_at e letter percent point h
  unfolding figure_at
  figure_ranked (known v) h days r is ranks =
      let same : days ≡ days_of v h = ok_same {B = RecordFault} is in
      ap (ranked letter point h) (ranks ∙ (λ i. percentile_of (int_upto i) (same i) percent))
  figure_ranked (unknown l q) h days r is ranks = let z : ◌≡◌ {A = ℕ} 0 1 = cc in absurd (omega arith)

  or_ranked : (h : ℕ) (r : Result ℤ Nothing) → result_or r (Err (NoDays letter point h)) ≡ ranked letter point h r
  or_ranked h (Ok x) = refl
  or_ranked h (Err f) = refl

  -- the percentile, or in place of its fault the one that names the letter, the point and the hour
  pub figure_or : (e : Entry) (h : ℕ) (days : List (Option ℤ)) (r : Result ℤ Nothing) → Ok days ≡ gathered e h → r ≡ percentile_of (upto int_cmp) days percent → result_or r (Err (NoDays letter point h)) ≡ figure_at e letter percent point h
  figure_or e h days r is ranks = or_ranked h r ∙ figure_ranked e h days r is ranks

-- no letter's percentile is 0, which ranks nothing
pub figure_none : (letter point : ℕ) (e : Entry) (h : ℕ) (days : List (Option ℤ)) → Ok days ≡ gathered e h → Err (NoDays letter point h) ≡ figure_at e letter 0 point h
unfolding percentile_of
figure_none letter point e h days is = figure_ranked letter 0 point e h days (Err (record {})) is refl

pub some_percent : (o : Option ℕ) (p : ℕ) (f : RuleFault) → Ok p ≡ ok_or o f → unwrap_or o 0 ≡ p
some_percent None p f is = let z : ◌≡◌ {A = ℕ} 0 1 = cc in absurd (omega arith)
some_percent (Some q) p f is = sym (ok_same {B = RuleFault} is)

pub no_percent : (o : Option ℕ) (f g : RuleFault) → Err g ≡ ok_or o f → (unwrap_or o 0 ≡ 0) × (g ≡ f)
no_percent None f g is = let same : g ≡ f = cc in (refl, same)
no_percent (Some q) f g is = let z : ◌≡◌ {A = ℕ} 0 1 = cc in absurd (omega arith)

pub ok_from_or : (r : Result ℤ Nothing) (f : RuleFault) (x : ℤ) → Ok x ≡ result_or r (Err f) → Ok x ≡ r
ok_from_or (Ok y) f x is = ap Ok (ok_same {B = RuleFault} is)
ok_from_or (Err e) f x is = let z : ◌≡◌ {A = ℕ} 0 1 = cc in absurd (omega arith)

in_ok : (r : Result ℤ Nothing) (x : ℤ) → Ok x ≡ r → InRange r → Bounded 4000000 x
in_ok (Ok y) x e b = let k : x ≡ y = cc in let low = b.low in let high = b.high in record { low = rw k low; high = rw k high }
in_ok (Err f) x e b = let z : ◌≡◌ {A = ℕ} 0 1 = cc in absurd (omega arith)

-- a percentile of what was gathered is in a record's range
pub figure_in : (e : Entry) → Ranged e → (h percent : ℕ) (days : List (Option ℤ)) (x : ℤ) → Ok days ≡ gathered e h → Ok x ≡ percentile_of (upto int_cmp) days percent → Bounded 4000000 x
figure_in (known v) ranged h percent days x is ranks =
    let same : days ≡ days_of v h = ok_same {B = RecordFault} is in
    in_ok (percentile_of le_z (days_of v h) percent) x (ranks ∙ (λ i. percentile_of (int_upto i) (same i) percent)) (percentile_within v h percent ranged)
figure_in (unknown l q) ranged h percent days x is ranks = let z : ◌≡◌ {A = ℕ} 0 1 = cc in absurd (omega arith)
