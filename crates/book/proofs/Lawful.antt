-- The laws of a book: its view follows the history, and its total is the sum of the rows it shows.
use Rattle.std.proofs.Common.{◌≡◌, ◌≤◌, List, [], ◌∷◌, ◌++◌, ℤ, IfOk, Some, Ok, Err, Result, vec_items, refl, sym, ap, ◌∙◌, subst}
use Rattle.std.specs.Option.{option_map}
use Rattle.market.specs.declared.right.Right.{Right}
use Rattle.rights.specs.declared.row.Row.{Row}
use Rattle.rights.specs.Covers.{drawn, free_of}
use Rattle.rights.specs.Rights.{tenths_of}
use Rattle.history.specs.Calls.{call, reply}
use Rattle.history.specs.Events.{Event, after}
use Rattle.history.specs.Histories.{exposure_then, limit_by}
use Rattle.history.specs.Runs.{Leads, opened, called}
use Rattle.history.specs.Sums.{sum}
use Rattle.history.specs.Views.{Opening, View, start}
use Rattle.history.proofs.Bringing.{brought}
use Rattle.history.proofs.Following.{follows}
use Rattle.history.proofs.Holding.{Held, not_both}
use Rattle.history.proofs.Tracing.{settled, struck_leads}
use Rattle.book.specs.declared.batch.Batch.{Batch}
use Rattle.book.specs.declared.batch.Batch.TheVariants.{Plain, Open}
use Rattle.book.specs.declared.opening.Unopened.{Unopened}
use Rattle.book.specs.declared.state.Book.{Book}
use Rattle.book.specs.declared.state.Room.{Room}
use Rattle.book.specs.Laws.{Alike, ToldBy, Sound, Law}
use Rattle.book.specs.Opening.{Opened, Begins}
use Rattle.book.specs.Shown.{restored, view, stated, restored_exposure}

total_is : (b : Book) → stated b ≡ sum (view b).rows
total_is b = b.standing.adds

restored_is : (t : Batch) (total : ℤ) (rs : List Row) → total ≡ sum rs → restored t total ≡ option_map sum (restored t rs)
restored_is Plain total rs e = refl
restored_is Open total rs e = ap Some e

restored_sum : (b : Book) → restored_exposure b ≡ option_map sum (view b).restores
restored_sum b = restored_is b.batch b.before.total (vec_items b.before.rows) b.before.adds

alike : (b b' : Book) → view b ≡ view b' → Alike b b'
alike b b' e = record {
  limit = ap (λ (v : View). v.limit) e;
  rights = ap (λ (v : View). v.rights) e;
  rows = ap (λ (v : View). v.rows) e;
  exposure = total_is b ∙ ap (λ (v : View). sum v.rows) e ∙ sym (total_is b');
  free = λ p. ap (λ (v : View). free_of v.rights v.rows p) e;
  batch = ap (λ (v : View). v.restores) e;
  batch_exposure = restored_sum b ∙ ap (λ (v : View). option_map sum v.restores) e ∙ sym (restored_sum b');
  batch_free = λ p. ap (λ (v : View). option_map (λ rs. free_of v.rights rs p) v.restores) e;
}

told_by : (o : Opening) (es : List Event) (b : Book) → Leads o es (view b) → ToldBy o es b
told_by o es b l = record {
  leads = l;
  answers = λ es' b' l' c. (settled l' l c).0;
  ends = λ es' b' l' c. alike b' b (settled l' l c).1;
}

pub sound : (o : Opening) (es : List Event) (b : Book) → Leads o es (view b) → Sound o es b
sound o es b l =
    let f = follows l in
    record {
      rows = f.rows_are;
      exposure = total_is b ∙ ap sum f.rows_are;
      free = λ p. ap (λ (r : List Right). free_of r (view b).rows p) f.rights_are ∙ ap (λ (rs : List Row). free_of o.rights rs p) f.rows_are;
      covered = λ p. subst (λ (rs : List Row). drawn p rs ≤ tenths_of o.rights p) f.rows_are (f.covered p);
      brought = λ later s m a before h. brought o s m a before es later (view b) l h;
      limit = f.limit_is;
      held = not_both (limit_by o es) (exposure_then o es) (stated b) (subst (λ (t : ℤ). Held (limit_by o es) (exposure_then o es) t) (sym (total_is b)) f.held);
      no_trace = λ before rest c. told_by o (rest ++ before) b (struck_leads o es before rest (view b) l c);
    }

pub lawful : (b : Book) (e : Event) (b' : Book) → e ≡ reply (view b) (call e) → view b' ≡ after (view b) e → Law b e b'
lawful b e b' a f = record {
  leads_on = λ o es l. called l e (record { answers = a; leaves = f });
  sound = λ o es l. sound o (e ∷ es) b' (called l e (record { answers = a; leaves = f }));
}

begins : (o : Opening) (b : Book) → view b ≡ start o → Begins o b
begins o b e = record { leads = opened e; sound = sound o [] b (opened e) }

pub made_begins : (room : Room) (o : Opening) (r : Result Book Unopened) → Opened room o r → IfOk r (λ b. Begins o b)
made_begins room o (Ok b) h = begins o b h.1
made_begins room o (Err u) h = tt
