-- What stands, by the opening and the calls so far alone, never by the book's rows. A history has its newest event first.
-- Assumes nothing.
use Rattle.std.specs.Prelude.{ℕ, Bool, true, false, cond, List, [], ◌∷◌, ◌++◌, ℤ, pos, is_ok, Ok, Err, Result, ◌==◌}
use Rattle.market.specs.declared.right.PathHour.{PathHour}
use Rattle.market.specs.declared.right.Right.{Right}
use Rattle.market.specs.declared.submission.Submission.{Submission}
use Rattle.exposure.specs.declared.fault.RuleFault.{RuleFault}
use Rattle.rights.specs.declared.row.Row.{Row}
use Rattle.rights.specs.Covers.{cover_of, free_of}
use Rattle.history.specs.declared.batch.BatchCall.TheVariants.{Open, Keep, Cancel}
use Rattle.history.specs.Events.{Event, submitted, withdrew, batched, limited}
use Rattle.history.specs.Sums.{sum}
use Rattle.history.specs.Views.{Meaning, Opening}

-- an accepted open-batch
abbrev pub opens : Event → Bool
opens (submitted s m r) = false
opens (withdrew n r) = false
opens (batched Open r) = is_ok r
opens (batched Keep r) = false
opens (batched Cancel r) = false
opens (limited l r) = false

-- an accepted cancel-batch
abbrev pub cancels : Event → Bool
cancels (submitted s m r) = false
cancels (withdrew n r) = false
cancels (batched Open r) = false
cancels (batched Keep r) = false
cancels (batched Cancel r) = is_ok r
cancels (limited l r) = false

-- Going back in time, an event is outside of every cancelled batch, or inside of one.
pub data Place : Type 0 where
  outside : Place
  inside : Place

-- Strikes out each cancelled batch: its accepted cancel-batch, its accepted open-batch and all between.
abbrev pub strike : Place → List Event → List Event
strike outside [] = []
strike inside [] = []
strike outside (e ∷ es) = cond (cancels e) (strike inside es) (e ∷ strike outside es)
strike inside (e ∷ es) = cond (opens e) (strike outside es) (strike inside es)

abbrev pub among : ℕ → List ℕ → Bool
among n [] = false
among n (k ∷ ks) = cond (n == k) true (among n ks)

-- the grains of a value; an accepted submission has no fault
abbrev pub grains_of : Result ℤ RuleFault → ℤ
grains_of (Ok x) = x
grains_of (Err f) = pos 0

-- an accepted submission at a cover, with the value that its rule's meaning had there
abbrev pub entered : Submission → Meaning → ℕ → Row
entered s m cover = record { submission = s; exposure = grains_of (m s cover); cover = cover }

-- What stands of what remains, in order of acceptance: each accepted submission whose number is not among those that an
-- accepted withdrawal after it names, covered by what stood just before its acceptance.
abbrev pub stand : List Right → List ℕ → List Event → List Row
stand rights gone [] = []
stand rights gone (submitted s m (Ok a) ∷ es) =
    stand rights gone es ++ cond (among s.number gone) [] (entered s m (cover_of rights (stand rights [] es) s) ∷ [])
stand rights gone (submitted s m (Err f) ∷ es) = stand rights gone es
stand rights gone (withdrew n (Ok x) ∷ es) = stand rights (n ∷ gone) es
stand rights gone (withdrew n (Err f) ∷ es) = stand rights gone es
stand rights gone (batched c r ∷ es) = stand rights gone es
stand rights gone (limited l r ∷ es) = stand rights gone es

abbrev pub standing : Opening → List Event → List Row
standing o es = stand o.rights [] (strike outside es)

-- the sum over what stands
abbrev pub exposure_by : Opening → List Event → ℤ
exposure_by o es = sum (standing o es)

-- the right's tenths less the covers of what stands
abbrev pub free_by : Opening → List Event → PathHour → ℕ
free_by o es p = free_of o.rights (standing o es) p

-- the limit in force: that of the opening, or of the last accepted new limit
abbrev pub limit_by : Opening → List Event → ℤ
limit_by o [] = o.limit
limit_by o (submitted s m r ∷ es) = limit_by o es
limit_by o (withdrew n r ∷ es) = limit_by o es
limit_by o (batched c r ∷ es) = limit_by o es
limit_by o (limited l (Ok u) ∷ es) = l
limit_by o (limited l (Err f) ∷ es) = limit_by o es

-- the exposure right after that limit was set
abbrev pub exposure_then : Opening → List Event → ℤ
exposure_then o [] = pos 0
exposure_then o (submitted s m r ∷ es) = exposure_then o es
exposure_then o (withdrew n r ∷ es) = exposure_then o es
exposure_then o (batched c r ∷ es) = exposure_then o es
exposure_then o (limited l (Ok u) ∷ es) = exposure_by o (limited l (Ok u) ∷ es)
exposure_then o (limited l (Err f) ∷ es) = exposure_then o es
