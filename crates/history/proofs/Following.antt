-- A view follows its history: each call made keeps the view in agreement with what stands by the calls alone.
use Rattle.std.proofs.Common.{◌≡◌, ℕ, cond, List, [], ◌∷◌, ◌++◌, ℤ, pos, neg_ℤ, Some, None, Ok, Err, filter, Option, Result, unwrap_or, sym, refl, ap, ◌∙◌, subst, inr, arith}
use Rattle.std.specs.Int.Signed.{≤ℤ_refl}
use Rattle.market.specs.declared.right.Right.{Right}
use Rattle.market.specs.declared.submission.Submission.{Submission}
use Rattle.rights.specs.declared.row.Row.{Row}
use Rattle.rights.specs.Covers.{cover_of}
use Rattle.history.specs.declared.accepted.Accepted.{Accepted}
use Rattle.history.specs.declared.batch.BatchCall.TheVariants.{Open, Keep, Cancel}
use Rattle.history.specs.declared.refusal.Refusal.{Refusal}
use Rattle.history.specs.declared.refusal.Refusal.TheVariants as refusal
use Rattle.history.specs.Answers.{fit_limit, if_plain}
use Rattle.history.specs.Calls.{call, reply}
use Rattle.history.specs.Events.{Event, submitted, withdrew, batched, limited, after}
use Rattle.history.specs.Histories.{entered, exposure_by, exposure_then, grains_of, inside, limit_by, outside, stand, standing, strike}
use Rattle.history.specs.Runs.{Brought, Leads, opened, called}
use Rattle.history.specs.Sums.{sum}
use Rattle.history.specs.Views.{Meaning, Opening, View, start}
use Rattle.history.proofs.Accepting.{Took, took, Gave, gave, was_plain, was_open}
use Rattle.history.proofs.Apart.{Apart, other, apart_push, apart_without, without_kept, sum_without}
use Rattle.history.proofs.Covering.{Covered, covered_push, covered_without}
use Rattle.history.proofs.Exposures.{sum_push}
use Rattle.history.proofs.Holding.{Held, held_more}
use Rattle.history.proofs.Standing.{stand_gone}

-- what an open batch restores agrees with what stood before it
abbrev Back : List Right → ℤ → ℤ → List Row → Option (List Row) → Type 0
Back rights limit then before None = Unit {0}
Back rights limit then before (Some rs) = (rs ≡ before) × Held limit then (sum rs) × Apart rs × Covered rights rs

-- A view against figures of a history: the rights, the limit in force, the exposure right after it was set, what
-- stands, and what stood before the last batch was opened.
pub record Agrees (rights : List Right) (limit then : ℤ) (stands before : List Row) (v : View) : Type 0 where
  pub limit_is : v.limit ≡ limit
  pub rights_are : v.rights ≡ rights
  pub rows_are : v.rows ≡ stands
  pub held : Held limit then (sum v.rows)
  pub apart : Apart v.rows
  pub covered : Covered rights v.rows
  pub back : Back rights limit then before v.restores

abbrev pub Follows : Opening → List Event → View → Type 0
Follows o es v = Agrees o.rights (limit_by o es) (exposure_then o es) (standing o es) (stand o.rights [] (strike inside es)) v

module _ (o : Opening) (es : List Event) (v : View) (i : Follows o es v) where
  cover_is : (s : Submission) → cover_of v.rights v.rows s ≡ cover_of o.rights (standing o es) s
  cover_is s = ap (λ (r : List Right). cover_of r v.rows s) i.rights_are ∙ ap (λ (rs : List Row). cover_of o.rights rs s) i.rows_are

  -- an accepted submission brings its cover by what stood, and its value there
  module _ (s : Submission) (m : Meaning) (a : Accepted) (t : Took v s m a) where
    brings_cover : a.cover ≡ cover_of o.rights (standing o es) s
    brings_cover = t.cover ∙ cover_is s

    brings_value : m s (cover_of o.rights (standing o es) s) ≡ Ok a.exposure
    brings_value = sym (ap (m s) (cover_is s)) ∙ t.worth

    pub brings : Brought o es s m a
    brings = record { cover = brings_cover; value = ap (m s) brings_cover ∙ brings_value }

    row : Row
    row = record { submission = s; exposure = a.exposure; cover = a.cover }

    row_is : row ≡ entered s m (cover_of o.rights (standing o es) s)
    unfolding row
    row_is = λ j. record { submission = s; exposure = sym (ap grains_of brings_value) j; cover = brings_cover j }

    submit_follows : Follows o (submitted s m (Ok a) ∷ es) (after v (submitted s m (Ok a)))
    unfolding row
    submit_follows = record {
      limit_is = i.limit_is;
      rights_are = i.rights_are;
      rows_are = ap (λ (q : Row). v.rows ++ (q ∷ [])) row_is ∙ ap (λ (rs : List Row). rs ++ (entered s m (cover_of o.rights (standing o es) s) ∷ [])) i.rows_are;
      held = rw (sum_push v.rows row) (held_more (limit_by o es) (exposure_then o es) (sum v.rows) a.exposure i.held (rw i.limit_is at t.fits));
      apart = apart_push v.rows row i.apart t.fresh;
      covered = covered_push o.rights v.rows row i.covered (rw i.rights_are at t.cover);
      back = i.back;
    }

  module _ (n : ℕ) (x : ℤ) (t : Gave v n) where
    withdraw_follows : Follows o (withdrew n (Ok x) ∷ es) (after v (withdrew n (Ok x)))
    withdraw_follows = record {
      limit_is = i.limit_is;
      rights_are = i.rights_are;
      rows_are = without_kept n v.rows i.apart ∙ ap (filter (other n)) i.rows_are ∙ sym (stand_gone o.rights (n ∷ []) (strike outside es));
      held = rw (sum_without n v.rows t.row t.found) (held_more (limit_by o es) (exposure_then o es) (sum v.rows) (neg_ℤ t.row.exposure) i.held (rw i.limit_is at t.fits));
      apart = apart_without n v.rows i.apart;
      covered = covered_without o.rights n v.rows i.covered;
      back = i.back;
    }

  open_follows : (u : Unit {0}) → Follows o (batched Open (Ok u) ∷ es) (after v (batched Open (Ok u)))
  open_follows u = record {
    limit_is = i.limit_is;
    rights_are = i.rights_are;
    rows_are = i.rows_are;
    held = i.held;
    apart = i.apart;
    covered = i.covered;
    back = (i.rows_are, i.held, i.apart, i.covered);
  }

  keep_follows : (u : Unit {0}) → Follows o (batched Keep (Ok u) ∷ es) (after v (batched Keep (Ok u)))
  keep_follows u = record {
    limit_is = i.limit_is;
    rights_are = i.rights_are;
    rows_are = i.rows_are;
    held = i.held;
    apart = i.apart;
    covered = i.covered;
    back = tt;
  }

  cancel_follows : (u : Unit {0}) (r : Option (List Row)) → ◌≡◌ {A = Result (Unit {0}) Refusal} (Ok u) (if_plain r (Err refusal.NoBatch) (Ok tt)) →
      Back o.rights (limit_by o es) (exposure_then o es) (stand o.rights [] (strike inside es)) r →
      Follows o (batched Cancel (Ok u) ∷ es) (record { limit = v.limit; rights = v.rights; rows = unwrap_or r v.rows; restores = None })
  cancel_follows u None h b = was_open u h
  cancel_follows u (Some rs) h b = record {
    limit_is = i.limit_is;
    rights_are = i.rights_are;
    rows_are = b.0;
    held = b.1;
    apart = b.2;
    covered = b.3;
    back = tt;
  }

  no_batch : (limit then : ℤ) (before : List Row) (r : Option (List Row)) → r ≡ None → Back o.rights limit then before r
  no_batch limit then before r h = rw h tt

  limit_follows : (l : ℤ) (u : Unit {0}) → v.restores ≡ None → Follows o (limited l (Ok u) ∷ es) (after v (limited l (Ok u)))
  limit_follows l u plain = record {
    limit_is = refl;
    rights_are = i.rights_are;
    rows_are = i.rows_are;
    held = inr (rw i.rows_are (≤ℤ_refl (sum (standing o es))));
    apart = i.apart;
    covered = i.covered;
    back = no_batch l (exposure_by o es) (stand o.rights [] (strike inside es)) v.restores plain;
  }

  pub step_follows : (e : Event) → e ≡ reply v (call e) → Follows o (e ∷ es) (after v e)
  step_follows (submitted s m (Ok a)) h = submit_follows s m a (took v s m a (cc))
  step_follows (submitted s m (Err f)) h = i
  step_follows (withdrew n (Ok x)) h = withdraw_follows n x (gave v n x (cc))
  step_follows (withdrew n (Err f)) h = i
  step_follows (batched Open (Ok u)) h = open_follows u
  step_follows (batched Open (Err f)) h = i
  step_follows (batched Keep (Ok u)) h = keep_follows u
  step_follows (batched Keep (Err f)) h = i
  step_follows (batched Cancel (Ok u)) h = cancel_follows u v.restores (cc) i.back
  step_follows (batched Cancel (Err f)) h = i
  step_follows (limited l (Ok u)) h = limit_follows l u (was_plain v.restores (cond (fit_limit l) (Ok tt) (Err refusal.LimitUnfit)) u (cc))
  step_follows (limited l (Err f)) h = i

start_follows : (o : Opening) → Follows o [] (start o)
start_follows o = record { limit_is = refl; rights_are = refl; rows_are = refl; held = inr (≤ℤ_refl (pos 0)); apart = tt; covered = λ p. omega arith; back = tt }

pub follows : {o : Opening} {es : List Event} {v : View} → Leads o es v → Follows o es v
follows {o} (opened p) = subst (λ (v : View). Follows o [] v) (sym p) (start_follows o)
follows {o} (called {es = es} {v = c} l e d) = subst (λ (v : View). Follows o (e ∷ es) v) (sym d.leaves) (step_follows o es c (follows l) e d.answers)
