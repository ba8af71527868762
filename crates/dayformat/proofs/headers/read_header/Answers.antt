-- The pieces by their places are those that the file lends.
use Rattle.std.proofs.Common.{◌≡◌, ℕ, List, ℤ, length, Some, take, refl, sym, ap, subst, ◌∙◌, rules}
use Rattle.market.specs.declared.right.Right.{Right}
use Rattle.dayformat.specs.Headers.{Head, lent_head}
use Rattle.dayformat.specs.Valuations.{Valued, meant, Inside}
use Rattle.dayformat.proofs.Placing.{calls_last, placed_as, placed_inside}
use Rattle.dayformat.proofs.headers.read_header.Goals as goal

same_head : {l l' : ℤ} {rs rs' : List Right} {v v' : Valued} {cs cs' : List ℕ} → l ≡ l' → rs ≡ rs' → v ≡ v' → cs ≡ cs' →
    ◌≡◌ {A = Head} (record { limit = l; rights = rs; valued = v; calls = cs }) (record { limit = l'; rights = rs'; valued = v'; calls = cs' })
same_head p q r s = λ i. record { limit = p i; rights = q i; valued = r i; calls = s i }

pub returns-clause-value : goal.returns-clause-value
returns-clause-value c =
    let file = c.args.file.now in
    let h = c.in_ok-header.header in
    let is = c.in_ok-header.ensures.value in
    let rights = ap (λ (n : ℕ). take n c.held.result) (c.len.ensures.value ∙ ap length (sym c.deref.ensures.0)) ∙ c.held.ensures ∙ c.deref.ensures.0 ∙ c.read-rights.ensures in
    ap Some (same_head (search rules) rights (ap (meant file) c.placed.ensures ∙ placed_as file (lent_head h) is h.valuation refl) (calls_last file (lent_head h) is)) ∙ is

pub returns-clause-inside : goal.returns-clause-inside
returns-clause-inside c =
    let file = c.args.file.now in
    let h = c.in_ok-header.header in
    subst (Inside (length file)) (sym c.placed.ensures) (placed_inside file (lent_head h) c.in_ok-header.ensures.value h.valuation refl)
