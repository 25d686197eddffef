-- A written page reads back as its boards' parts.
use Prim.Native.Nat.{ℕ, suc}
use mathlib.Core.Path.{◌≡◌, refl, ap, ◌∙◌}
use mathlib.Core.List.{List, [], ◌∷◌, map}
use lib.ListN.{length, length-map}
use Rattle.tables.specs.declared.letters.Conventions.{Conventions}
use Rattle.tables.specs.Letters.{Accepted}
use Rattle.reader.specs.declared.board.TableCard.{TableCard}
use Rattle.reader.specs.Records.{records_of}
use Rattle.reader.specs.Plain.{PlainBoard, plain_of, plain_boards}
use Rattle.writer.specs.Pages.{first_part, page_text, written_text}
use Rattle.writer.specs.Given.{with_table, with_tables, tables_of, finished_boards}
use Rattle.demands.specs.PageBack.{AllWritable, all_none, all_one, own_text, records_after, page_records, WrittenCount}
use Rattle.demands.proofs.PageWalk.{AllLined, no_boards, a_board, LinedRecords}
use Rattle.demands.proofs.BoardWritable.{PlainIsWritable, WritableLike, LinesGood}

all_lined : (c : Conventions) → Accepted c → (bs : List PlainBoard) → AllWritable bs → AllLined c bs
all_lined c ok [] all_none = no_boards
all_lined c ok (b ∷ bs) (all_one w a) = a_board (LinesGood c ok b w) (all_lined c ok bs a)

-- THEOREM. The page of boards that can be written has one record for each board: its lines, the header in the first.
pub PageRecords : (c : Conventions) → Accepted c → (bs : List PlainBoard) → AllWritable bs → records_of (page_text c bs) ≡ page_records c bs
PageRecords c ok bs w = LinedRecords c bs (all_lined c ok bs w)

records_count : (c : Conventions) (own : List ℕ) (bs : List PlainBoard) → length (records_after c own bs) ≡ suc (length bs)
records_count c own [] = refl
records_count c own (b ∷ bs) = rw (records_count c (own_text c b) bs)

page_count : (c : Conventions) (bs : List PlainBoard) → length (page_records c bs) ≡ length bs
page_count c [] = refl
page_count c (b ∷ bs) = records_count c (first_part c b) bs

-- ---- an edition

pub all_plain : (c : Conventions) (rs : List (List ℕ)) → AllWritable (map (plain_of c) rs)
all_plain c [] = all_none
all_plain c (r ∷ rs) = all_one (PlainIsWritable c r) (all_plain c rs)

-- With other tables.
pub all_with : (c : Conventions) (ts : List TableCard) (rs : List (List ℕ)) → AllWritable (with_tables ts (map (plain_of c) rs))
unfolding with_table
all_with c [] rs = all_none
all_with c (t ∷ ts) [] = all_none
all_with c (t ∷ ts) (r ∷ rs) = all_one (WritableLike (PlainIsWritable c r) refl refl refl refl refl) (all_with c ts rs)

pub all_finished : (c : Conventions) (old new answers : List ℕ) → AllWritable (finished_boards c old new answers)
unfolding finished_boards plain_boards
all_finished c old new answers = all_with c (tables_of c old new answers) (records_of new)

-- THEOREM. What an edition is written as has the records of its boards' parts, as many as the edition.
pub WrittenRecords : (c : Conventions) → Accepted c → (text : List ℕ) → records_of (written_text c text) ≡ page_records c (plain_boards c text)
unfolding written_text plain_boards
WrittenRecords c ok text = PageRecords c ok (plain_boards c text) (all_plain c (records_of text))

pub written_count : WrittenCount
unfolding plain_boards
written_count c ok text = ap length (WrittenRecords c ok text) ∙ page_count c (plain_boards c text) ∙ length-map (records_of text) (plain_of c)
