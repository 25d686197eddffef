-- Laws of writing a whole edition.
use Prim.Native.Nat.{ℕ, ◌/◌}
use mathlib.Core.Path.{◌≡◌, refl, sym, ap, ◌∙◌}
use mathlib.Core.Bool.{true, false, cond}
use mathlib.Core.List.{List}
use native.Mathlib.Omega.{arith}
use lib.Dec.{ltb, leb}
use lib.ListN.{length}
use Rattle.std.specs.Prelude.{Ok, Err, is_ok, Result}
use Rattle.std.specs.Result.{MatchResult, IsErrAnd, is_err}
use Rattle.tables.specs.declared.letters.Conventions.{Conventions}
use Rattle.tables.specs.declared.page.Page.{Page}
use Rattle.tables.specs.declared.refusal.Refusal.TheVariants as refusal
use Rattle.tables.specs.Page.{page_of}
use Rattle.tables.specs.PageSteps.{Put, PageEnded}
use Rattle.tables.specs.Puts.{Puts}
use Rattle.tables.proofs.PageLaws.{finished}
use Rattle.tables.proofs.Laws.{by_cases, clash}
use Rattle.reader.specs.declared.edition.Counts.{Counts}
use Rattle.reader.specs.declared.edition.ReadRefusal.{ReadRefusal}
use Rattle.reader.specs.Store.{zeros}
use Rattle.planning.proofs.AnswerLaws.{passed_on}
use Rattle.reader.specs.Editions.{reading_of, cards_of, entries_of, IsRead}
use Rattle.writer.specs.declared.write.WriteRefusal.{WriteRefusal}
use Rattle.writer.specs.declared.write.WriteRefusal.TheVariants.{Edition}
use Rattle.writer.specs.Pages.{written_text}
use Rattle.writer.specs.BoardTexts.{page_held}
use Rattle.writer.specs.Writings.{page_answer, written_by, writing_of, page_after, IsWritten}
use Rattle.writer.specs.WritingSteps.{PagePut}
use Rattle.writer.proofs.HeldBoards.{taken_holds}
use Rattle.writer.proofs.HeldPages.{PageHeld}
use Rattle.writer.proofs.Sizes.{BytesFew}
use Rattle.tables.specs.declared.refusal.Refusal.{Refusal}
use Rattle.tables.specs.Refusals.{refusal_carries}

abbrev boards_in : Result Counts ReadRefusal → ℕ
boards_in (Ok n) = n.boards
boards_in (Err f) = 0

-- A text that is taken: as many boards as cards.
taken_boards : (c : Conventions) (text : List ℕ) (lc le : ℕ) (n : Counts) → Ok n ≡ reading_of c text lc le → n.boards ≡ length (cards_of c text)
unfolding reading_of
taken_boards c text lc le n i =
    by_cases (ltb 16777215 (length text))
    (λ t. clash (sym (ap is_ok (rw t at i))))
    (λ t.
    by_cases (ltb (lc / 64) (length (cards_of c text)))
    (λ u. clash (sym (ap is_ok (rw (t, u) at i))))
    (λ u.
    by_cases (ltb (le / 4) (length (entries_of c text)))
    (λ v. clash (sym (ap is_ok (rw (t, u, v) at i))))
    (λ v. ap boards_in (rw (t, u, v) at i))))

-- What was put from the start of lent bytes is put on them.
pub page_put : {p q : Page} {bytes bytes' bs : List ℕ} → Puts p bs q → p.at ≡ 0 → p.bytes.now ≡ bytes → bytes' ≡ q.bytes.now → PagePut bytes bs bytes' q.at
page_put a z e f = rw (← e, f) (record { put = λ h. rw z at (a.put (omega (arith, z))); kept = a.kept })

-- What a page of bs comes to, by the answer.
page_out : (bs : List ℕ) (m : ℕ) → page_of bs m ≡ page_after (is_ok (page_answer (length bs) m)) bs m
unfolding page_of
page_out bs m = by_cases (leb (length bs) m) (λ q. rw q) (λ q. rw q)

out_is : (n m : ℕ) → is_ok (page_answer n m) ≡ leb n m
out_is n m = by_cases (leb n m) (λ q. rw q) (λ q. rw q)

-- The end of a page, its refusal told as another.
pub told_on : {E : Type 0} (full : ℕ → E) (n m : ℕ) (f : Result ℕ Refusal) {r : Result ℕ E} → MatchResult f (λ x. r ≡ Ok x) (λ e. IsErrAnd r (λ g. g ≡ full (refusal_carries e)))
    → f ≡ cond (leb n m) (Ok n) (Err (refusal.PageFull n)) → r ≡ cond (leb n m) (Ok n) (Err (full n))
told_on full n m f {r} h e = by_cases (leb n m) (λ q. rw q (rw (rw q at e) at h)) (λ q. rw q (passed_on r (rw (rw q at e) at h)))

-- The edition was taken, its text put and the page ended.
module _ {c : Conventions} {text cards entries page cards₁ entries₁ page₁ page₂ : List ℕ} {k : Counts} {n : ℕ} {f : Result ℕ Refusal} {r : Result ℕ WriteRefusal}
    (i : IsRead c text cards entries (Ok k) cards₁ entries₁) (p : PagePut page (page_held c text cards₁ entries₁ k.boards) page₁ n)
    (e : PageEnded n page₁ page₂ f) (told : r ≡ page_answer n (length page₁)) where
  text_put : PagePut page (written_text c text) page₁ n
  text_put =
      let t = taken_holds i in
      let w = rw (taken_boards c text (length cards) (length entries) k i.answer) at p in
      rw (PageHeld c text cards₁ entries₁ t) at w

  put_there : Put page 0 (written_text c text) page₁ n
  put_there = let few = BytesFew c text (taken_holds i).short in text_put.put (omega arith)

  out : r ≡ page_answer (length (written_text c text)) (length page)
  out =
      let en : n ≡ length (written_text c text) = omega (arith, put_there.next) in
      let el = text_put.kept in
      rw (← en, ← el) told

  pub written_taken : r ≡ writing_of c text (length cards) (length entries) (length page)
  unfolding writing_of
  written_taken = out ∙ ap (written_by (written_text c text) (length page)) i.answer

  pub written_whole : is_ok r ≡ true → {page' : List ℕ} → page₂ ≡ page' → IsWritten c text cards entries page r cards₁ entries₁ page'
  written_whole h same =
      record {
        answer = written_taken;
        page_left = sym same ∙ (finished put_there e).page_left ∙ (page_out (written_text c text) (length page) ∙ rw out);
        cards_after = rw h i.cards_after;
        entries_after = rw h i.entries_after;
      }

-- The edition was refused.
pub written_refused : {c : Conventions} {text cards entries cards₁ entries₁ : List ℕ} (m : ℕ) {f : ReadRefusal} {g : WriteRefusal}
    → IsRead c text cards entries (Err f) cards₁ entries₁ → g ≡ Edition f → Err g ≡ writing_of c text (length cards) (length entries) m
unfolding writing_of
written_refused {c} {text} m i h = ap Err h ∙ ap (written_by (written_text c text) m) i.answer

pub no_answer : {T E : Type 0} (r : Result T E) → is_err r ≡ true → is_ok r ≡ false
no_answer (Ok t) h = sym h
no_answer (Err g) h = refl

-- All that was lent is set to 0 after a refusal.
pub written_zero : {c : Conventions} {text cards entries page : List ℕ} (cards₁ entries₁ page₁ : List ℕ) {cards₂ entries₂ page₂ : List ℕ} {r : Result ℕ WriteRefusal}
    → r ≡ writing_of c text (length cards) (length entries) (length page) → is_err r ≡ true
    → length cards₁ ≡ length cards → length entries₁ ≡ length entries → length page₁ ≡ length page
    → cards₂ ≡ zeros cards₁ → entries₂ ≡ zeros entries₁ → page₂ ≡ zeros page₁
    → IsWritten c text cards entries page r cards₂ entries₂ page₂
written_zero cards₁ entries₁ page₁ {r = r} a err kc ke kp x y z =
    let h = no_answer r err in
    record { answer = a; page_left = z ∙ rw (h, kp); cards_after = x ∙ rw (h, kc); entries_after = y ∙ rw (h, ke) }
