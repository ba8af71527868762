-- Why a figure is in range: a percentile is one of the values ranked, and a record's values are. Assumes nothing.
use Rattle.std.specs.Prelude.{ℕ, zero, suc, ◌+◌, Bool, true, false, cond, List, [], ◌∷◌, map, ℤ, Some, None, Ok, Err, Option, Result, int_le}
use Rattle.std.proofs.Common.{arith}
use Rattle.std.proofs.lemmas.Int.{ints}
use Rattle.std.specs.List.{range_with_len}
use Rattle.std.specs.Option.{ok_or}
use Rattle.market.specs.Bounds.{Bounded}
use Rattle.prices.specs.Entries.{Entry, known, unknown, on_calendar, Within, Ranged}
use Rattle.ranking.specs.declared.fault.NoDays.{NoDays as Nothing}
use Rattle.ranking.specs.Answer.{first_passing, is_least, is_percent, percentile_of}
use Rattle.ranking.specs.Counts.{present, share}
use Rattle.exposure.specs.Figures.{days_of, ranked, figure_at}

-- a value in range, or a fault
abbrev pub InRange : {E : Type 0} → Result ℤ E → Type 0
InRange (Ok x) = Bounded 4000000 x
InRange (Err f) = Unit {0}

-- what each day has is in range
abbrev AllWithin : List (Option ℤ) → Type 0
AllWithin [] = Unit {0}
AllWithin (x ∷ xs) = Within x × AllWithin xs

in_bounds : (x : ℤ) → Within (Some x) → Bounded 4000000 x
in_bounds x w = record { low = omega (arith, ints, w.0); high = omega (arith, ints, w.1) }

one_of : (f : ℤ → Bool) (xs : List (Option ℤ)) → AllWithin xs → Within (first_passing f xs)
one_of f [] a = tt
one_of f (None ∷ xs) a = one_of f xs a.1
one_of f (Some x ∷ xs) a = chosen (f x) (one_of f xs a.1)
  where
    chosen : (t : Bool) → Within (first_passing f xs) → Within (cond t (Some x) (first_passing f xs))
    chosen true w = a.0
    chosen false w = w

answered : (o : Option ℤ) (f : Nothing) → Within o → InRange (ok_or o f)
answered None f w = tt
answered (Some x) f w = in_bounds x w

tested : (t : Bool) (o : Option ℤ) (f g : Nothing) → Within o → InRange (cond t (ok_or o f) (Err g))
tested true o f g w = answered o f w
tested false o f g w = tt

percentile_in : (xs : List (Option ℤ)) (p : ℕ) → AllWithin xs → InRange (percentile_of int_le xs p)
unfolding percentile_of
percentile_in xs p a = tested (is_percent p) (first_passing (is_least int_le xs (share p (present xs))) xs) (record {}) (record {}) (one_of (is_least int_le xs (share p (present xs))) xs a)

on_days : (t : Bool) (o : Option ℤ) → Within o → Within (cond t o None)
on_days true o w = w
on_days false o w = tt

days_within : (v : ℕ → ℕ → Option ℤ) (h : ℕ) → ((g d : ℕ) → Within (v g d)) → (a n : ℕ) → AllWithin (map (λ (k : ℕ). cond (on_calendar h (k + 1)) (v h (k + 1)) None) (range_with_len a n))
days_within v h each a zero = tt
days_within v h each a (suc n) = (on_days (on_calendar h (a + 1)) (v h (a + 1)) (each h (a + 1)), days_within v h each (a + 1) n)

all_days : (v : ℕ → ℕ → Option ℤ) (h : ℕ) → ((g d : ℕ) → Within (v g d)) → AllWithin (days_of v h)
unfolding days_of
all_days v h each = days_within v h each 0 30

ranked_in : (letter point h : ℕ) (r : Result ℤ Nothing) → InRange r → InRange (ranked letter point h r)
ranked_in letter point h (Ok x) b = b
ranked_in letter point h (Err f) b = tt

-- the percentile of a record's days, before the letter's fault
pub percentile_within : (v : ℕ → ℕ → Option ℤ) (h p : ℕ) → ((g d : ℕ) → Within (v g d)) → InRange (percentile_of int_le (days_of v h) p)
percentile_within v h p each = percentile_in (days_of v h) p (all_days v h each)

pub figure_within : (e : Entry) → Ranged e → (letter percent point h : ℕ) → InRange (figure_at e letter percent point h)
unfolding figure_at
figure_within (known v) ranged letter percent point h = ranked_in letter point h (percentile_of int_le (days_of v h) percent) (percentile_within v h percent ranged)
figure_within (unknown l q) ranged letter percent point h = tt
