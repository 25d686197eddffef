-- Refusals 7 to 15: the number of each, and the number that it carries; and the edition that a refusal of any layer tells.
use Rattle.std.specs.Prelude.{ℕ, Option, Some, None}
use Rattle.tables.specs.declared.refusal.Refusal.{Refusal}
use Rattle.tables.specs.declared.refusal.Refusal.TheVariants.{PageFull, Length, Digit, Fields, Declarer, Denomination, Outcome, Over, Missing}
use Rattle.tables.specs.declared.refused.Edition.{Edition}
use Rattle.tables.specs.declared.refused.Edition.TheVariants.{Old, New}

-- 7 page full: text to write longer than the page. 8 length: trimmed value not 20 characters. 9 digit: bad digit.
-- 10 fields: row not three fields. 11 declarer: bad seat. 12 denomination: bad strain. 13 result: no number 0 to 255.
-- 14 over: above 13. 15 missing: cells absent.
abbrev pub refusal_number : Refusal → ℕ
refusal_number (PageFull n) = 7
refusal_number (Length n) = 8
refusal_number (Digit n) = 9
refusal_number (Fields n) = 10
refusal_number (Declarer n) = 11
refusal_number (Denomination n) = 12
refusal_number (Outcome n) = 13
refusal_number (Over n) = 14
refusal_number (Missing n) = 15

-- 7: bytes needed. 8: characters. 9: index of the first bad character. 10 to 14: the row from 0. 15: how many.
abbrev pub refusal_carries : Refusal → ℕ
refusal_carries (PageFull n) = n
refusal_carries (Length n) = n
refusal_carries (Digit n) = n
refusal_carries (Fields n) = n
refusal_carries (Declarer n) = n
refusal_carries (Denomination n) = n
refusal_carries (Outcome n) = n
refusal_carries (Over n) = n
refusal_carries (Missing n) = n

-- An edition by its number, and the one that a refusal is about: 0 where it is about neither.
abbrev pub edition_number : Edition → ℕ
edition_number Old = 1
edition_number New = 2

abbrev pub edition_told : Option Edition → ℕ
edition_told None = 0
edition_told (Some e) = edition_number e
