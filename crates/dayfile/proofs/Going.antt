-- The run of a file, call by call.
use Rattle.std.proofs.Common.{◌≡◌, ℕ, zero, suc, ◌+◌, ◌-◌, ◌*◌, ◌<◌, ◌≤◌, List, [], ◌∷◌, ◌++◌, length, ℤ, Some, None, decimal, Option, sym, refl, ap, ◌∙◌, append_assoc, ◌⊎◌, inl, inr, append-nil, arith, lit<, length-append}
use Rattle.std.specs.Int.Signed.{mag}
use Rattle.std.specs.Fmt.{signed_decimal}
use Rattle.std.proofs.lemmas.Fmt.{length-decimal-le, length_signed_le}
use Rattle.history.specs.Sums.{sum}
use Rattle.history.specs.Views.{View, Meaning}
use Rattle.dayfile.specs.Puts.{written}
use Rattle.dayformat.specs.Calls.{first_call}
use Rattle.dayformat.specs.Filed.{Filed}
use Rattle.dayfile.specs.Puts.{over, Wrote, Filled}
use Rattle.dayformat.specs.Scripts.{Script, done, cut, then, script}
use Rattle.dayfile.specs.Lines.{letter, line, closing}
use Rattle.dayfile.specs.Runs.{call_line, text, asked, told, left}
use Rattle.dayfile.proofs.Writing.{over_then, line_long, closing_long}

-- how long a line can be
pub line_short : (c n : ℕ) (x : ℤ) → n < 100 → mag x ≤ 50000000000000000 → length (line c n x) ≤ 24
line_short c n x hn hx =
    let d : length (decimal n) ≤ 2 = length-decimal-le 2 n (lit< tt) (omega arith) (omega arith) in
    let s : length (signed_decimal x) ≤ 18 = length_signed_le 17 x (omega arith) (omega arith) in
    omega (arith, line_long c n x)

pub closing_short : (place : ℕ) → place ≤ 65536 → length (closing place) ≤ 11
closing_short place h =
    let d : length (decimal place) ≤ 5 = length-decimal-le 5 place (lit< tt) (omega arith) (omega arith) in
    omega (arith, closing_long place)

line_is : (c c' n n' : ℕ) (x x' : ℤ) → c ≡ c' → n ≡ n' → x ≡ x' → line c n x ≡ line c' n' x'
line_is c c' n n' x x' p q r = ap (λ (k : ℕ). line k n x) p ∙ ap (λ (k : ℕ). line c' k x) q ∙ ap (λ (z : ℤ). line c' n' z) r

-- a script's clauses
script_none : (n size : ℕ) (bs : List ℕ) → length bs ≡ 0 → script n size bs ≡ done
unfolding script
script_none n size [] h = refl
script_none n size (b ∷ bs) h = absurd (omega arith)

-- no call is left to make, or none is there
script_ends : (n size : ℕ) (bs : List ℕ) → 0 < length bs → (n ≡ 0) ⊎ (first_call bs ≡ None) → script n size bs ≡ cut (size - length bs)
unfolding script
script_ends n size [] h why = absurd (omega arith)
script_ends zero size (b ∷ bs) h why = refl
script_ends (suc n) size (b ∷ bs) h (inl z) = absurd (omega arith)
script_ends (suc n) size (b ∷ bs) h (inr e) = ap (λ (o : Option (Filed × List ℕ)). elim o [ None ↦ cut (size - length (b ∷ bs)) | Some p ↦ then p.0 (script n size p.1) ]) e

script_more : (n n' size : ℕ) (bs rest : List ℕ) (k : Filed) → n ≡ n' + 1 → first_call bs ≡ Some (k, rest) → length rest < length bs → script n size bs ≡ then k (script n' size rest)
unfolding script
script_more n n' size [] rest k s e less = absurd (omega arith)
script_more zero n' size (b ∷ bs) rest k s e less = absurd (omega arith)
script_more (suc n) n' size (b ∷ bs) rest k s e less =
    let same : n ≡ n' = omega arith in
    ap (λ (o : Option (Filed × List ℕ)). elim o [ None ↦ cut (size - length (b ∷ bs)) | Some p ↦ then p.0 (script n size p.1) ]) e
    ∙ ap (λ (j : ℕ). then k (script j size rest)) same

text_done : (m : Meaning) (v : View) → text m v done ≡ []
unfolding text
text_done m v = refl

text_cut : (m : Meaning) (v : View) (place : ℕ) → text m v (cut place) ≡ closing place
unfolding text
text_cut m v place = refl

text_then : (m : Meaning) (v : View) (k : Filed) (s : Script) → text m v (then k s) ≡ call_line m v k ++ text m (left v (asked m k)) s
unfolding text
text_then m v k s = refl

-- a run on its way: some lines are written, and the rest of the text is that of the rest of the file
pub record Going (m : Meaning) (whole before : List ℕ) (size : ℕ) (v : View) (rest answer : List ℕ) (at budget : ℕ) : Type 0 where
  pub written_so_far : List ℕ
  pub place : at ≡ length written_so_far
  pub stands : answer ≡ over written_so_far before
  pub all : whole ≡ written_so_far ++ text m v (script budget size rest)
  pub fits : at + 24 * budget ≤ 48000
  pub inside : length rest ≤ size

-- a call is made, and its line is written
pub going_more : {m m' : Meaning} {whole before bs : List ℕ} {size : ℕ} {v v' : View} {rest rest' answer answer' : List ℕ} {at at' budget budget' : ℕ} {k : Filed} {c n : ℕ} {x : ℤ} →
    Going m whole before size v rest answer at budget → m' ≡ m → budget ≡ budget' + 1 →
    (first_call rest ≡ Some (k, rest')) × (length rest' < length rest) → Wrote answer at bs at' answer' → bs ≡ line c n x →
    c ≡ letter k → n ≡ told v (asked m' k) → n < 100 → x ≡ sum v'.rows → mag x ≤ 50000000000000000 → v' ≡ left v (asked m' k) →
    Going m whole before size v' rest' answer' at' budget'
unfolding call_line
going_more {m} {m'} {whole} {before} {bs} {size} {v} {v'} {rest} {rest'} {answer} {answer'} {at} {at'} {budget} {budget'} {k} {c} {n} {x} g kept one reads w is lettered numbered few summed short same =
    let f = g.written_so_far in
    let l = call_line m v k in
    let here : v' ≡ left v (asked m k) = same ∙ ap (λ (o : Meaning). left v (asked o k)) kept in
    let said : bs ≡ l =
    is ∙ line_is c (letter k) n (told v (asked m k)) x (sum (left v (asked m k)).rows) lettered (numbered ∙ ap (λ (o : Meaning). told v (asked o k)) kept) (summed ∙ ap (λ (u : View). sum u.rows) here) in
    let long : length bs ≤ 24 = let s = line_short c n x few short in omega (arith, ap length is) in
    let place : at' ≡ at + length bs = w.place in
    record {
      written_so_far = f ++ l;
      place = let q = g.place in let h : length (f ++ l) ≡ length f + length l = length-append f l in omega (arith, ap length said);
      stands = w.after ∙ ap (λ (xs : List ℕ). written xs at bs) g.stands ∙ ap (λ (xs : List ℕ). written (over f before) at xs) said ∙ over_then f l before at (sym g.place);
      all = g.all
          ∙ ap (λ (s : Script). f ++ text m v s) (script_more budget budget' size rest rest' k one reads.0 reads.1)
          ∙ ap (λ (t : List ℕ). f ++ t) (text_then m v k (script budget' size rest'))
          ∙ sym (append_assoc f l (text m (left v (asked m k)) (script budget' size rest')))
          ∙ ap (λ (u : View). (f ++ l) ++ text m u (script budget' size rest')) (sym here);
      fits = let q = g.fits in omega arith;
      inside = let q = g.inside in let r = reads.1 in omega arith;
    }

pub going_done : {m : Meaning} {whole before : List ℕ} {size : ℕ} {v : View} {rest answer : List ℕ} {at budget : ℕ} →
    Going m whole before size v rest answer at budget → length rest ≡ 0 → Filled whole before at answer
going_done {m} {whole} {before} {size} {v} {rest} {answer} {at} {budget} g none =
    let f = g.written_so_far in
    let e : whole ≡ f = g.all ∙ ap (λ (s : Script). f ++ text m v s) (script_none budget size rest none) ∙ ap (λ (t : List ℕ). f ++ t) (text_done m v) ∙ append-nil f in
    record { length_is = g.place ∙ ap length (sym e); after = g.stands ∙ ap (λ (t : List ℕ). over t before) (sym e); fits = let q = g.fits in omega arith }

pub going_ends : {m : Meaning} {whole before bs : List ℕ} {size : ℕ} {v : View} {rest answer answer' : List ℕ} {at end budget : ℕ} →
    Going m whole before size v rest answer at budget → 0 < length rest → (budget ≡ 0) ⊎ (first_call rest ≡ None) → size ≤ 65536 →
    Wrote answer at bs end answer' → bs ≡ closing (size - length rest) → Filled whole before end answer'
going_ends {m} {whole} {before} {bs} {size} {v} {rest} {answer} {answer'} {at} {end} {budget} g some why short w is =
    let f = g.written_so_far in
    let l = closing (size - length rest) in
    let e : whole ≡ f ++ l = g.all ∙ ap (λ (s : Script). f ++ text m v s) (script_ends budget size rest some why) ∙ ap (λ (t : List ℕ). f ++ t) (text_cut m v (size - length rest)) in
    let place : end ≡ at + length bs = w.place in
    let q = g.place in
    let h : length (f ++ l) ≡ length f + length l = length-append f l in
    let long : end ≡ length (f ++ l) = omega (arith, ap length is) in
    record {
      length_is = long ∙ ap length (sym e);
      after = w.after ∙ ap (λ (xs : List ℕ). written xs at bs) g.stands ∙ ap (λ (xs : List ℕ). written (over f before) at xs) is ∙ over_then f l before at (sym g.place) ∙ ap (λ (t : List ℕ). over t before) (sym e);
      fits = let f = g.fits in let c = closing_short (size - length rest) (omega arith) in omega (arith, ap length is);
    }
