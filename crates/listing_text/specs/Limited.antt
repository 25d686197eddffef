-- Both editions, with a limit of the listing's own on the length of each.
use Rattle.std.specs.Prelude.{ℕ, cond, List, ltb, length, Result, Err}
use Rattle.tables.specs.declared.letters.Conventions.{Conventions}
use Rattle.reader.specs.declared.edition.Counts.{Counts}
use Rattle.reader.specs.declared.edition.ReadRefusal.{ReadRefusal}
use Rattle.reader.specs.declared.edition.ReadRefusal.TheVariants.{Overlong}
use Rattle.reader.specs.Editions.{reading_of}
use Rattle.planning.specs.Plans.{Boxes, both_after, Editions}

-- An edition longer than the limit is refused with 1, whatever else it is; any other is read.
unfoldable pub limited_of : Conventions → ℕ → List ℕ → ℕ → ℕ → Result Counts ReadRefusal
limited_of c limit text lc le = cond (ltb limit (length text)) (Err (Overlong (length text))) (reading_of c text lc le)

-- Both with the limit: each refusal of the old one, its length too, comes before those of the new.
unfoldable pub limited_both : Conventions → ℕ → List ℕ → List ℕ → Boxes → Editions
limited_both c limit old new boxes =
    both_after
    (limited_of c limit old (length boxes.old_cards) (length boxes.old_entries))
    (limited_of c limit new (length boxes.new_cards) (length boxes.new_entries))
