-- A cancelled batch leaves no trace: inside it a view keeps what it restores, so that cancelling comes back to the view
-- of before, and the calls that follow go on from there as if the batch had not been.
use Rattle.std.proofs.Common.{◌≡◌, ℕ, true, false, cond, List, [], ◌∷◌, ◌++◌, map, Some, None, Ok, Err, Option, unwrap_or, sym, refl, ◌∙◌, subst, arith}
use Rattle.std.proofs.lemmas.Bool.{both_ways}
use Rattle.rights.specs.declared.row.Row.{Row}
use Rattle.history.specs.declared.batch.BatchCall.TheVariants.{Open, Keep, Cancel}
use Rattle.history.specs.declared.refusal.Refusal.TheVariants as refusal
use Rattle.history.specs.Answers.{fit_limit}
use Rattle.history.specs.Calls.{call, reply}
use Rattle.history.specs.Events.{Event, submitted, withdrew, batched, limited, after}
use Rattle.history.specs.Histories.{opens, cancels}
use Rattle.history.specs.Runs.{Did, Leads, opened, called, closes, Unclosed, Cancelled}
use Rattle.history.specs.Views.{Opening, View}
use Rattle.history.proofs.Accepting.{was_plain}

-- a run is settled by its opening and its calls
pub settled : {o : Opening} {es es' : List Event} {v v' : View} → Leads o es v → Leads o es' v' → map call es ≡ map call es' → (es ≡ es') × (v ≡ v')
settled (opened p) (opened q) h = (refl, p ∙ sym q)
settled (opened p) (called l' e' d') h = let z : ◌≡◌ {A = ℕ} 0 1 = cc in absurd (omega arith)
settled (called l e d) (opened q) h = let z : ◌≡◌ {A = ℕ} 0 1 = cc in absurd (omega arith)
settled (called {es = xs} {v = c} {v' = v} l e d) (called {es = ys} {v = c'} {v' = v'} l' e' d') h =
    let t : map call xs ≡ map call ys = cc in
    let i = settled l l' t in
    let k : call e ≡ call e' = cc in
    let a = d.answers in
    let a' = d'.answers in
    let w = i.1 in
    let x : e ≡ e' = cc in
    let y = i.0 in
    let f = d.leaves in
    let f' = d'.leaves in
    (cc, cc)

-- v is a view inside a batch that was opened at v₀
record Within (v v₀ : View) : Type 0 where
  limit : v.limit ≡ v₀.limit
  rights : v.rights ≡ v₀.rights
  restores : v.restores ≡ Some v₀.rows
  plain : v₀.restores ≡ None

enters : (v : View) (e : Event) → e ≡ reply v (call e) → opens e ≡ true → Within (after v e) v
enters v (submitted s m r) a h = absurd (both_ways false refl h)
enters v (withdrew n r) a h = absurd (both_ways false refl h)
enters v (batched Open (Ok u)) a h = record { limit = refl; rights = refl; restores = refl; plain = was_plain v.restores (Ok tt) u (cc) }
enters v (batched Open (Err f)) a h = absurd (both_ways false refl h)
enters v (batched Keep r) a h = absurd (both_ways false refl h)
enters v (batched Cancel r) a h = absurd (both_ways false refl h)
enters v (limited l r) a h = absurd (both_ways false refl h)

no_second : {X : Type 0} (v v₀ : View) → Within v v₀ → v.restores ≡ None → X
no_second v v₀ w p = let q = w.restores in let z : ◌≡◌ {A = ℕ} 0 1 = cc in absurd (omega arith)

stays : (v v₀ : View) (e : Event) → e ≡ reply v (call e) → Within v v₀ → closes e ≡ false → Within (after v e) v₀
stays v v₀ (submitted s m (Ok y)) a w k = record { limit = w.limit; rights = w.rights; restores = w.restores; plain = w.plain }
stays v v₀ (submitted s m (Err f)) a w k = w
stays v v₀ (withdrew n (Ok y)) a w k = record { limit = w.limit; rights = w.rights; restores = w.restores; plain = w.plain }
stays v v₀ (withdrew n (Err f)) a w k = w
stays v v₀ (batched Open (Ok u)) a w k = no_second v v₀ w (was_plain v.restores (Ok tt) u (cc))
stays v v₀ (batched Open (Err f)) a w k = w
stays v v₀ (batched Keep (Ok u)) a w k = absurd (both_ways true k refl)
stays v v₀ (batched Keep (Err f)) a w k = w
stays v v₀ (batched Cancel (Ok u)) a w k = absurd (both_ways true k refl)
stays v v₀ (batched Cancel (Err f)) a w k = w
stays v v₀ (limited l (Ok u)) a w k = no_second v v₀ w (was_plain v.restores (cond (fit_limit l) (Ok tt) (Err refusal.LimitUnfit)) u (cc))
stays v v₀ (limited l (Err f)) a w k = w

rows_back : (r : Option (List Row)) (rows rs : List Row) → r ≡ Some rs → unwrap_or r rows ≡ rs
rows_back r rows rs e = rw e refl

comes_back : (v v₀ : View) (e : Event) → Within v v₀ → cancels e ≡ true → after v e ≡ v₀
comes_back v v₀ (submitted s m r) w c = absurd (both_ways false refl c)
comes_back v v₀ (withdrew n r) w c = absurd (both_ways false refl c)
comes_back v v₀ (batched Open r) w c = absurd (both_ways false refl c)
comes_back v v₀ (batched Keep r) w c = absurd (both_ways false refl c)
comes_back v v₀ (batched Cancel (Ok u)) w c =
    λ i. record { limit = w.limit i; rights = w.rights i; rows = rows_back v.restores v.rows v₀.rows w.restores i; restores = sym w.plain i }
comes_back v v₀ (batched Cancel (Err f)) w c = absurd (both_ways false refl c)
comes_back v v₀ (limited l r) w c = absurd (both_ways false refl c)

-- the last call of a run
pub last : {o : Opening} {e : Event} {es : List Event} {v : View} → Leads o (e ∷ es) v → (c : View) × Leads o es c × Did c e v
last (called {v = c} l e d) = (c, l, d)

-- a run inside a batch, and the run that led to where it was opened
record Inside (o : Opening) (before : List Event) (v : View) : Type 0 where
  then : View
  led : Leads o before then
  within : Within v then

first_in : {o : Opening} {before : List Event} {v : View} (a : Event) → (c : View) × Leads o before c × Did c a v → opens a ≡ true → Inside o before v
first_in a q h = record { then = q.0; led = q.1; within = rw q.2.leaves (enters q.0 a q.2.answers h) }

next_in : {o : Opening} {before : List Event} {v : View} (e : Event) (c : View) → Did c e v → Inside o before c → closes e ≡ false → Inside o before v
next_in e c d i k = record { then = i.then; led = i.led; within = rw d.leaves (stays c i.then e d.answers i.within k) }

module _ (o : Opening) (before : List Event) (a : Event) (h : opens a ≡ true) where
  in_batch : (batch : List Event) (v : View) → Leads o (batch ++ (a ∷ before)) v → Unclosed batch → Inside o before v
  in_batch [] v l u = first_in a (last l) h
  in_batch (e ∷ batch) v l u = next_in e (last l).0 (last l).2 (in_batch batch (last l).0 (last l).1 u.1) u.0

left_at : {o : Opening} {before : List Event} {v : View} (c : Event) (q : View) → Did q c v → Inside o before q → cancels c ≡ true → Leads o before v
left_at {o} {before} c q d i k = subst (Leads o before) (sym (d.leaves ∙ comes_back q i.then c i.within k)) i.led

-- what led to a view may be replaced, under any calls that follow
replaced : (o : Opening) (rest es fs : List Event) → ((v : View) → Leads o es v → Leads o fs v) → (v : View) → Leads o (rest ++ es) v → Leads o (rest ++ fs) v
replaced o [] es fs f v l = f v l
replaced o (e ∷ rest) es fs f v l = called (replaced o rest es fs f (last l).0 (last l).1) e (last l).2

-- without a cancelled batch a history leads to the same view
pub struck_leads : (o : Opening) (es before rest : List Event) (v : View) → Leads o es v → Cancelled es before rest → Leads o (rest ++ before) v
struck_leads o es before rest v l b =
    replaced o rest (b.cancelling ∷ (b.inside ++ (b.opening ∷ before))) before
    (λ w k. left_at b.cancelling (last k).0 (last k).2 (in_batch o before b.opening b.opened b.inside (last k).0 (last k).1 b.unclosed) b.cancelled)
    v (subst (λ (xs : List Event). Leads o xs v) b.whole l)
