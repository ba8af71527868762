-- How a submission that is new, in a book with room, is answered once the rule has valued it.
use Rattle.std.proofs.Common.{◌≡◌, ℕ, ◌<◌, true, false, length, ℤ, ◌+ℤ◌, ◌-ℤ◌, None, Ok, Err, vec_items, sym, ap, ◌∙◌, w64, to_z, of_z}
use Rattle.std.proofs.lemmas.Bool.{lt-leb}
use Rattle.market.specs.declared.submission.Submission.{Submission}
use Rattle.history.specs.declared.refusal.Refusal.TheVariants as refusal
use Rattle.book.specs.declared.state.Book.{Book}
use Rattle.history.specs.Answers.{beyond, over, submit_answer, valued}
use Rattle.rights.specs.Covers.{cover_of}
use Rattle.history.specs.Rows.{find}
use Rattle.history.specs.Sums.{sum}
use Rattle.history.specs.Views.{Meaning}
use Rattle.book.specs.Shown.{view}
use Rattle.book.proofs.Answering.{weighed, valued_beyond, valued_over, valued_under}
use Rattle.book.proofs.Totals.{Reads}

-- n is the number as the code read it, and x the value of the rule at the cover
module _ (b : Book) (s : Submission) (m : Meaning) (n cover : ℕ) (x : ℤ) (number_is : n ≡ s.number) (new : find n (view b).rows ≡ None) (room : length (view b).rows < 500)
    (cover_is : cover ≡ cover_of (view b).rights (view b).rows s) (value_is : Ok x ≡ m s cover) (r : Reads b.limit b.standing.total (sum (vec_items b.standing.rows)) x) where
  abbrev raised : ℤ
  raised = to_z w64 (of_z w64 (to_z w64 (of_z w64 b.standing.total) +ℤ to_z w64 (of_z w64 x)))

  answered : submit_answer (view b) s m ≡ valued (view b) cover (Ok x)
  answered = weighed (view b) s m cover (Ok x) (ap (λ (k : ℕ). find k (view b).rows) (sym number_is) ∙ new) (lt-leb 500 (length (view b).rows) room) cover_is value_is

  pub out_of_range : beyond raised ≡ true → Err refusal.TotalOutOfRange ≡ submit_answer (view b) s m
  out_of_range t = sym (answered ∙ valued_beyond (view b) cover x (ap beyond (sym r.raise_is) ∙ t))

  pub past_limit : beyond raised ≡ false → over (to_z w64 (of_z w64 b.limit)) (to_z w64 (of_z w64 b.standing.total)) (to_z w64 (of_z w64 x)) ≡ true →
      Err (refusal.SubmitOver (to_z w64 (of_z w64 x)) (to_z w64 (of_z w64 (to_z w64 (of_z w64 b.limit) -ℤ to_z w64 (of_z w64 b.standing.total))))) ≡ submit_answer (view b) s m
  past_limit t o =
      (λ i. Err (refusal.SubmitOver (r.change_is i) (r.left_is i)))
      ∙ sym (answered ∙ valued_over (view b) cover x (ap beyond (sym r.raise_is) ∙ t) ((λ i. over (sym r.limit_is i) (sym r.total_is i) (sym r.change_is i)) ∙ o))

  pub within_limit : beyond raised ≡ false → over (to_z w64 (of_z w64 b.limit)) (to_z w64 (of_z w64 b.standing.total)) (to_z w64 (of_z w64 x)) ≡ false →
      Ok (record { exposure = to_z w64 (of_z w64 x); cover = cover }) ≡ submit_answer (view b) s m
  within_limit t o =
      (λ i. Ok (record { exposure = r.change_is i; cover = cover }))
      ∙ sym (answered ∙ valued_under (view b) cover x (ap beyond (sym r.raise_is) ∙ t) ((λ i. over (sym r.limit_is i) (sym r.total_is i) (sym r.change_is i)) ∙ o))
