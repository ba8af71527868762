-- A book's limit, its total and a change of it are small beside 64 bits, so that the code's sums are
-- the numbers' own.
use Rattle.std.proofs.Common.{◌≡◌, ℕ, ◌*◌, ◌≤◌, length, ℤ, pos, ◌+ℤ◌, ◌-ℤ◌, neg_ℤ, ◌≤ℤ◌, Some, Ok, Err, Option, Result, get_or, vec_items, sym, ap, ◌∙◌, subst, arith, w64, SFits, to_z, of_z}
use Rattle.std.proofs.lemmas.Int.{ints}
use Rattle.std.specs.List.{remove}
use Rattle.market.specs.Bounds.{Bounded}
use Rattle.exposure.specs.declared.fault.RuleFault.{RuleFault}
use Rattle.exposure.specs.Worth.{Within}
use Rattle.book.specs.declared.ledger.Ledger.{Ledger}
use Rattle.book.specs.declared.state.Book.{Book}
use Rattle.rights.specs.declared.row.Row.{Row}
use Rattle.history.specs.Rows.{find, without, Placed}
use Rattle.history.specs.Sums.{sum}
use Rattle.history.proofs.Exposures.{bounded_at, sum_bounds}

-- a value that a rule answers lies in a rule's range
pub within_ok : (w : Result ℤ RuleFault) (x : ℤ) → Ok x ≡ w → Within w → Bounded 100000000000000 x
within_ok (Ok y) x e h = let k : x ≡ y = cc in let a = h.low in let b = h.high in record { low = rw k a; high = rw k b }
within_ok (Err f) x e h = let z : ◌≡◌ {A = ℕ} 0 1 = cc in absurd (omega arith)

in_all : (n : ℕ) (s : ℤ) → n ≤ 500 → Bounded (n * 100000000000000) s → Bounded 50000000000000000 s
in_all n s h b = record { low = omega (arith, ints, b.low); high = omega (arith, ints, b.high) }

-- 500 rows of at most 10^14 grains
pub total_bounds : (l : Ledger) → Bounded 50000000000000000 (sum (vec_items l.rows))
total_bounds l =
    let few : length (vec_items l.rows) ≤ 500 = omega (arith, l.few, l.rows.ok.0) in
    in_all (length (vec_items l.rows)) (sum (vec_items l.rows)) few (sum_bounds (vec_items l.rows) l.within)

-- what the code reads of a limit, a total that stands for the sum s, and a change x
pub record Reads (limit total s x : ℤ) : Type 0 where
  pub small : Bounded 100000000000000 x
  pub limit_is : to_z w64 (of_z w64 limit) ≡ limit
  pub total_is : to_z w64 (of_z w64 total) ≡ s
  pub total_wide : Bounded 1000000000000000000 (to_z w64 (of_z w64 total))
  pub left_fits : SFits w64 (to_z w64 (of_z w64 limit) -ℤ to_z w64 (of_z w64 total))
  pub left_is : to_z w64 (of_z w64 (to_z w64 (of_z w64 limit) -ℤ to_z w64 (of_z w64 total))) ≡ limit -ℤ s
  pub change_is : to_z w64 (of_z w64 x) ≡ x
  pub change_wide : Bounded 1000000000000000000 (to_z w64 (of_z w64 x))
  pub raise_fits : SFits w64 (to_z w64 (of_z w64 total) +ℤ to_z w64 (of_z w64 x))
  pub raise_is : to_z w64 (of_z w64 (to_z w64 (of_z w64 total) +ℤ to_z w64 (of_z w64 x))) ≡ s +ℤ x
  pub negation_fits : SFits w64 (pos 0 -ℤ to_z w64 (of_z w64 x))
  pub negation_is : to_z w64 (of_z w64 (pos 0 -ℤ to_z w64 (of_z w64 x))) ≡ neg_ℤ x
  pub negation_wide : Bounded 1000000000000000000 (to_z w64 (of_z w64 (pos 0 -ℤ to_z w64 (of_z w64 x))))

read : (limit total s x : ℤ) → total ≡ s → Bounded 50000000000000000 s → pos 0 ≤ℤ limit → limit ≤ℤ pos 10000000000000000 → Bounded 100000000000000 x → Reads limit total s x
read limit total s x adds b low high bx = record {
  small = bx;
  limit_is = omega (arith, ints, low, high);
  total_is = omega (arith, ints, b.low, b.high);
  total_wide = record { low = omega (arith, ints, b.low, b.high); high = omega (arith, ints, b.low, b.high) };
  left_fits = omega (arith, ints, b.low, b.high, low, high);
  left_is = omega (arith, ints, b.low, b.high, low, high);
  change_is = omega (arith, ints, bx.low, bx.high);
  change_wide = record { low = omega (arith, ints, bx.low, bx.high); high = omega (arith, ints, bx.low, bx.high) };
  raise_fits = omega (arith, ints, b.low, b.high, bx.low, bx.high);
  raise_is = omega (arith, ints, b.low, b.high, bx.low, bx.high);
  negation_fits = omega (arith, ints, bx.low, bx.high);
  negation_is = omega (arith, ints, bx.low, bx.high);
  negation_wide = record { low = omega (arith, ints, bx.low, bx.high); high = omega (arith, ints, bx.low, bx.high) };
}

pub reads : (b : Book) (x : ℤ) → Bounded 100000000000000 x → Reads b.limit b.standing.total (sum (vec_items b.standing.rows)) x
reads b x bx = read b.limit b.standing.total (sum (vec_items b.standing.rows)) x b.standing.adds (total_bounds b.standing) b.low b.high bx

-- the same where a rule answers the change
pub reads_valued : (b : Book) (x : ℤ) (w : Result ℤ RuleFault) → Ok x ≡ w → Within w → Reads b.limit b.standing.total (sum (vec_items b.standing.rows)) x
reads_valued b x w e h = reads b x (within_ok w x e h)

-- the row q, found at the place i by its number
pub record Stands (b : Book) (number i : ℕ) (q : Row) : Type 0 where
  pub found : find number (vec_items b.standing.rows) ≡ Some q
  pub taken : without number (vec_items b.standing.rows) ≡ remove (vec_items b.standing.rows) i
  pub reads : Reads b.limit b.standing.total (sum (vec_items b.standing.rows)) q.exposure

pub stands_at : (b : Book) (number : ℕ) (o : Option ℕ) (i : ℕ) (q : Row) → Placed number (vec_items b.standing.rows) o → o ≡ Some i → q ≡ get_or (vec_items b.standing.rows) i q → Stands b number i q
stands_at b number o i q p e at =
    let place = subst (Placed number (vec_items b.standing.rows)) e p in
    record {
      found = place.1 q ∙ ap Some (sym at);
      taken = place.2;
      reads = reads b q.exposure (bounded_at (vec_items b.standing.rows) i q place.0 at b.standing.within);
    }
