-- Counts of elements: what one more day adds, and that a weaker test counts no fewer. Each goes by the list.
use Rattle.std.proofs.Common.{◌≡◌, ℕ, suc, ◌+◌, ◌<◌, ◌≤◌, Bool, true, false, cond, T, List, [], ◌∷◌, ◌++◌, length, get_or, is_some, take, Some, None, Option, sym, refl, ap, ◌∙◌, arith, take_all}
use Rattle.std.proofs.lemmas.List.{take_more, get_or_read}
use Rattle.std.proofs.lemmas.List.Sums.{length-filter}
use Rattle.std.specs.List.{count_by, filter}
use Rattle.ranking.specs.Counts.{tally, present}
use Rattle.ranking.specs.Percentile.{on_day}
use Rattle.ranking.proofs.Tests.{no_some, some_same}

-- what one day adds
abbrev pub one : {E : Type 0} → (E → Bool) → Option E → ℕ
one f None = 0
one f (Some x) = cond (f x) 1 0

one_some : {E : Type 0} (f : E → Bool) (o : Option E) (x : E) → o ≡ Some x → one f o ≡ cond (f x) 1 0
one_some f None x is = no_some is
one_some f (Some y) x is = ap (λ z. cond (f z) 1 0) (some_same is)

-- a test b that was made of the day's element adds 1 where it came out true, and nothing elsewhere
pub one_yes : {E : Type 0} (f : E → Bool) (o : Option E) (x : E) (b : Bool) → o ≡ Some x → b ≡ f x → b ≡ true → one f o ≡ 1
one_yes f o x b is made t = one_some f o x is ∙ ap (λ q. cond q 1 0) (sym made ∙ t)

pub one_no : {E : Type 0} (f : E → Bool) (o : Option E) (x : E) (b : Bool) → o ≡ Some x → b ≡ f x → b ≡ false → one f o ≡ 0
one_no f o x b is made t = one_some f o x is ∙ ap (λ q. cond q 1 0) (sym made ∙ t)

pub one_none : {E : Type 0} (f : E → Bool) (o : Option E) → o ≡ None → one f o ≡ 0
one_none f None is = refl
one_none f (Some y) is = no_some (sym is)

at_most_one : (b : Bool) → cond b 1 0 ≤ 1
at_most_one true = omega arith
at_most_one false = omega arith

one_small : {E : Type 0} (f : E → Bool) (o : Option E) → one f o ≤ 1
one_small f None = omega arith
one_small f (Some x) = at_most_one (f x)

tally_push : {E : Type 0} (f : E → Bool) (xs : List (Option E)) (o : Option E) → tally f (xs ++ (o ∷ [])) ≡ tally f xs + one f o
tally_push f [] None = refl
tally_push f [] (Some x) = omega arith
tally_push f (None ∷ xs) o = tally_push f xs o
tally_push f (Some y ∷ xs) o = let h = tally_push f xs o in omega arith

-- one turn of a loop that counts
pub tally_turn : {E : Type 0} (f : E → Bool) (xs : List (Option E)) (i n m : ℕ) (o : Option E) → i < length xs → o ≡ get_or xs i o → n ≡ tally f (take i xs) → n ≤ i → m ≡ n + one f o → (m ≡ tally f (take (i + 1) xs)) × (m ≤ i + 1)
tally_turn f xs i n m o within is at low next =
    let more : tally f (take (i + 1) xs) ≡ tally f (take i xs) + one f o =
    ap (tally f) (take_more xs i None within) ∙ tally_push f (take i xs) (get_or xs i None) ∙ ap (λ q. tally f (take i xs) + one f q) (sym (get_or_read xs i o within is None)) in
    let b = one_small f o in
    (omega arith, omega arith)

-- after the last turn
pub all_counted : {E : Type 0} (f : E → Bool) (xs : List (Option E)) (i n : ℕ) → length xs ≤ i → n ≡ tally f (take i xs) → n ≡ tally f xs
all_counted f xs i n past is = is ∙ ap (tally f) (take_all _ _ past)

one_mono : (a b : Bool) → (T a → T b) → cond a 1 0 ≤ cond b 1 0
one_mono true true h = omega arith
one_mono true false h = absurd (h tt)
one_mono false b h = omega arith

-- a weaker test counts no fewer
pub tally_mono : {E : Type 0} (f g : E → Bool) (xs : List (Option E)) → ((e : ℕ) (y : E) → on_day xs e ≡ Some y → T (f y) → T (g y)) → tally f xs ≤ tally g xs
tally_mono f g [] h = omega arith
tally_mono f g (None ∷ xs) h = tally_mono f g xs (λ e y is t. h (suc e) y is t)
tally_mono f g (Some x ∷ xs) h =
    let rest = tally_mono f g xs (λ e y is t. h (suc e) y is t) in
    let here = one_mono (f x) (g x) (λ t. h 0 x refl t) in
    omega arith

kept : {E : Type 0} (xs : List (Option E)) → length (filter is_some xs) ≡ present xs
kept [] = refl
kept (None ∷ xs) = kept xs
kept (Some x ∷ xs) = let h = kept xs in omega arith

-- the days that pass `is_some` are those that have an element
pub present_counts : {E : Type 0} (xs : List (Option E)) → count_by is_some xs ≡ present xs
present_counts xs = sym (length-filter is_some xs) ∙ kept xs
