-- Demand 1 of golavimes_write.
use Prim.Native.Nat.{ℕ, ◌<◌}
use mathlib.Core.Path.{◌≡◌, refl, ◌∙◌}
use mathlib.Core.Bool.{false}
use mathlib.Core.List.{List, [], ◌∷◌, ◌++◌}
use lib.ListN.{length}
use borrow.Author.Tests.{ltb-true, ltb-false, lt-leb, le-leb}
use Rattle.std.specs.Prelude.{Ok, Err, is_ok}
use Rattle.tables.specs.declared.letters.Conventions.{Conventions}
use Rattle.reader.specs.declared.edition.Counts.{Counts}
use Rattle.reader.specs.declared.edition.ReadRefusal.{ReadRefusal}
use Rattle.reader.specs.Editions.{read_number, read_carries, reading_of}
use Rattle.writer.specs.declared.write.WriteRefusal.TheVariants.{Edition, PageFull}
use Rattle.writer.specs.Pages.{written_text}
use Rattle.writer.specs.Writings.{writing_of}
use Rattle.golavimes.specs.Answers.{writing_numbers}
use Rattle.demands.specs.Demand1.{refusal, of_edition, NoValues, WriteRefuses}
use Rattle.demands.proofs.Refusing.{Says, Met, nothing, met_below, edition_met, first_that_holds, says_by, refused_by, names_none}

module _ (c : Conventions) (text cards entries page answer : List ℕ)
    (told : answer ≡ writing_numbers (writing_of c text (length cards) (length entries) (length page))) where
  refused_says : (f : ReadRefusal) → reading_of c text (length cards) (length entries) ≡ Err f → Says answer (read_number f) 0 (read_carries f)
  unfolding writing_of
  refused_says f q = says_by (writing_numbers (Err (Edition f))) answer (read_number f) 0 (read_carries f) (rw q at told) refl refl refl

  taken_met : (n : Counts) → reading_of c text (length cards) (length entries) ≡ Ok n
      → Met answer (refusal 7 0 (length (written_text c text)) (length page < length (written_text c text)) ∷ [])
  unfolding writing_of
  taken_met n q =
      met_below 7 0 (length (written_text c text)) (length page) (length (written_text c text))
      (λ t. says_by (writing_numbers (Err (PageFull (length (written_text c text))))) answer 7 0 (length (written_text c text))
      (rw (q, lt-leb (length (written_text c text)) (length page) (ltb-true (length page) (length (written_text c text)) t)) at told) refl refl refl)
      (λ t. nothing (says_by (writing_numbers (Ok (length (written_text c text)))) answer 0 0 0
      (rw (q, le-leb (length (written_text c text)) (length page) (ltb-false (length page) (length (written_text c text)) t)) at told) refl refl refl))

pub write_refuses : WriteRefuses
write_refuses c text cards entries page cards' entries' page' answer' r o =
    let w = writing_of c text (length cards) (length entries) (length page) in
    let refused : (r ≡ 0 → ⊥) → (is_ok w ≡ false) × NoValues 1 answer' =
    refused_by writing_numbers 1 (λ n. refl) (λ f. refl) w o.told o.returned in
    record {
      refused = first_that_holds (of_edition 0 c text cards entries ++ (refusal 7 0 (length (written_text c text)) (length page < length (written_text c text)) ∷ [])) answer' refl
          (edition_met 0 c text cards entries answer' (refusal 7 0 (length (written_text c text)) (length page < length (written_text c text)) ∷ [])
          (refused_says c text cards entries page answer' o.told) (taken_met c text cards entries page answer' o.told));
      one_edition = rw o.told (names_none writing_numbers (λ n. refl) (λ f. refl) w);
      returned = o.returned;
      cards_zero = λ h. o.lent_after.cards_after ∙ rw (refused h).0;
      entries_zero = λ h. o.lent_after.entries_after ∙ rw (refused h).0;
      page_zero = λ h. o.lent_after.page_left ∙ rw (refused h).0;
      no_values = λ h. (refused h).1;
    }
