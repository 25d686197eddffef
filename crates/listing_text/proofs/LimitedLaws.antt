-- Laws of both editions with a limit: one for each answer.
use Prim.Native.Nat.{ℕ, ◌≤◌, ◌<◌}
use mathlib.Core.Path.{◌≡◌, refl, ◌∙◌}
use mathlib.Core.Bool.{false}
use mathlib.Core.List.{List}
use lib.ListN.{length}
use borrow.Author.Tests.{lt-ltb, le-ltb}
use Rattle.std.specs.Prelude.{Result, Ok, Err, is_ok}
use Rattle.tables.specs.declared.letters.Conventions.{Conventions}
use Rattle.tables.specs.declared.refused.Edition.TheVariants.{Old}
use Rattle.reader.specs.declared.edition.ReadRefusal.{ReadRefusal}
use Rattle.reader.specs.declared.edition.ReadRefusal.TheVariants.{Overlong}
use Rattle.reader.specs.declared.edition.Counts.{Counts}
use Rattle.reader.specs.Editions.{IsRead}
use Rattle.planning.specs.Plans.{Boxes, four, both_after, editions_of, BothRead, Editions}
use Rattle.planning.specs.PlanSteps.{BoxesKept}
use Rattle.listing_text.specs.Limited.{limited_of, limited_both}
use Rattle.listing_text.specs.ListingSteps.{BothLimited}

module _ {c : Conventions} {limit : ℕ} {old new : List ℕ} where
  pub old_long : {boxes boxes' : Boxes} → limit < length old → BoxesKept false boxes boxes'
      → BothLimited c limit old new boxes boxes' (Err (record { edition = Old; refusal = Overlong (length old) }))
  unfolding limited_both limited_of
  old_long h k = record {
    answer = rw (lt-ltb limit (length old) h);
    boxes_left = record { old_cards = k.old_cards; old_entries = k.old_entries; new_cards = k.new_cards; new_entries = k.new_entries };
  }

  -- The old edition is read, and all words are set to 0.
  pub new_long : {oc oe oc₁ oe₁ nc ne : List ℕ} {boxes' : Boxes} {r s : Result Counts ReadRefusal} → length old ≤ limit → limit < length new
      → IsRead c old oc oe r oc₁ oe₁ → length oc₁ ≡ length oc → length oe₁ ≡ length oe → BoxesKept false (four oc₁ oe₁ nc ne) boxes' → r ≡ s
      → BothLimited c limit old new (four oc oe nc ne) boxes' (both_after s (Err (Overlong (length new))))
  unfolding limited_both limited_of
  new_long {s = s} h l i lc le k e = record {
    answer = rw (← e, le-ltb limit (length old) h, lt-ltb limit (length new) l, i.answer);
    boxes_left = rw (not_both s (Overlong (length new))) record { old_cards = k.old_cards ∙ rw lc; old_entries = k.old_entries ∙ rw le; new_cards = k.new_cards; new_entries = k.new_entries };
  }
    where
      not_both : (s : Result Counts ReadRefusal) (f : ReadRefusal) → is_ok (both_after s (Err f)) ≡ false
      not_both (Ok n) f = refl
      not_both (Err g) f = refl

  pub both_within : {boxes boxes' : Boxes} {r : Editions} → length old ≤ limit → length new ≤ limit → BothRead c old new boxes boxes' r
      → BothLimited c limit old new boxes boxes' r
  unfolding limited_both limited_of editions_of
  both_within h l b = record {
    answer = rw (le-ltb limit (length old) h, le-ltb limit (length new) l) b.answer;
    boxes_left = b.boxes_left;
  }
