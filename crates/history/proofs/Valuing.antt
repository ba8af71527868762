-- Where every submission is made under one protocol rule, what stands is valued by its formulas.
use Rattle.std.proofs.Common.{◌≡◌, ℕ, Bool, true, false, cond, List, [], ◌∷◌, ◌++◌, ℤ, ◌+ℤ◌, Ok, Err, refl, ap, ◌∙◌}
use Rattle.market.specs.declared.right.Right.{Right}
use Rattle.market.specs.declared.submission.Submission.{Submission}
use Rattle.formulas.specs.declared.factors.Factors.{Factors}
use Rattle.prices.specs.Entries.{Entry}
use Rattle.exposure.specs.Protocol.{protocol_worth}
use Rattle.rights.specs.declared.row.Row.{Row}
use Rattle.rights.specs.Covers.{cover_of}
use Rattle.history.specs.Events.{Event, submitted, withdrew, batched, limited}
use Rattle.history.specs.Histories.{Place, outside, inside, opens, cancels, strike, among, grains_of, entered, stand, standing, exposure_by}
use Rattle.history.specs.Protocols.{UnderProtocol, protocol_sum}
use Rattle.history.specs.Sums.{sum}
use Rattle.history.specs.Views.{Meaning, Opening}

module _ (ahead real : ℕ → Entry) (f : Factors) where
  abbrev Worth : List Row → Type 0
  Worth [] = Unit {0}
  Worth (r ∷ rs) = (r.exposure ≡ grains_of (protocol_worth ahead real f r.submission r.cover)) × Worth rs

  more : (rs qs : List Row) → Worth rs → Worth qs → Worth (rs ++ qs)
  more [] qs a b = b
  more (r ∷ rs) qs a b = (a.0, more rs qs a.1 b)

  unless_gone : (b : Bool) (s : Submission) (m : Meaning) (cover : ℕ) → m ≡ protocol_worth ahead real f → Worth (cond b [] (entered s m cover ∷ []))
  unless_gone true s m cover e = tt
  unless_gone false s m cover e = (ap (λ (w : Meaning). grains_of (w s cover)) e, tt)

  stand_worth : (rights : List Right) (gone : List ℕ) (es : List Event) → UnderProtocol ahead real f es → Worth (stand rights gone es)
  stand_worth rights gone [] u = tt
  stand_worth rights gone (submitted s m (Ok a) ∷ es) u =
      more (stand rights gone es) (cond (among s.number gone) [] (entered s m (cover_of rights (stand rights [] es) s) ∷ []))
      (stand_worth rights gone es u.1) (unless_gone (among s.number gone) s m (cover_of rights (stand rights [] es) s) u.0)
  stand_worth rights gone (submitted s m (Err g) ∷ es) u = stand_worth rights gone es u.1
  stand_worth rights gone (withdrew n (Ok x) ∷ es) u = stand_worth rights (n ∷ gone) es u
  stand_worth rights gone (withdrew n (Err g) ∷ es) u = stand_worth rights gone es u
  stand_worth rights gone (batched c r ∷ es) u = stand_worth rights gone es u
  stand_worth rights gone (limited l r ∷ es) u = stand_worth rights gone es u

  -- striking out leaves the submissions that remain as they were
  rest : (e : Event) (es : List Event) → UnderProtocol ahead real f (e ∷ es) → UnderProtocol ahead real f es
  rest (submitted s m r) es u = u.1
  rest (withdrew n r) es u = u
  rest (batched c r) es u = u
  rest (limited l r) es u = u

  kept : (e : Event) (es xs : List Event) → UnderProtocol ahead real f (e ∷ es) → UnderProtocol ahead real f xs → UnderProtocol ahead real f (e ∷ xs)
  kept (submitted s m r) es xs u v = (u.0, v)
  kept (withdrew n r) es xs u v = v
  kept (batched c r) es xs u v = v
  kept (limited l r) es xs u v = v

  either : (b : Bool) (xs ys : List Event) → UnderProtocol ahead real f xs → UnderProtocol ahead real f ys → UnderProtocol ahead real f (cond b xs ys)
  either true xs ys u v = u
  either false xs ys u v = v

  struck : (p : Place) (es : List Event) → UnderProtocol ahead real f es → UnderProtocol ahead real f (strike p es)
  struck outside [] u = tt
  struck inside [] u = tt
  struck outside (e ∷ es) u =
      either (cancels e) (strike inside es) (e ∷ strike outside es) (struck inside es (rest e es u)) (kept e es (strike outside es) u (struck outside es (rest e es u)))
  struck inside (e ∷ es) u =
      either (opens e) (strike outside es) (strike inside es) (struck outside es (rest e es u)) (struck inside es (rest e es u))

  adds_up : (rs : List Row) → Worth rs → sum rs ≡ protocol_sum ahead real f rs
  adds_up [] w = refl
  adds_up (r ∷ rs) w = ap (λ (x : ℤ). x +ℤ sum rs) w.0 ∙ ap (λ (x : ℤ). grains_of (protocol_worth ahead real f r.submission r.cover) +ℤ x) (adds_up rs w.1)

  pub by_formulas : (o : Opening) (es : List Event) → UnderProtocol ahead real f es → exposure_by o es ≡ protocol_sum ahead real f (standing o es)
  by_formulas o es u = adds_up (standing o es) (stand_worth o.rights [] (strike outside es) (struck outside es u))
