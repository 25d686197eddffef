-- What the proofs of LIN pages go by: boards that are all well, and their records one after the other.
use Rattle.std.specs.Prelude.{ℕ, List, [], ◌∷◌, ◌++◌}
use Rattle.tables.specs.declared.letters.Conventions.{Conventions}
use Rattle.writer.specs.Pages.{built_in_header}
use Rattle.lin.specs.LinBoards.{LinBoard}
use Rattle.demands.specs.PageBack.{part_records}
use Rattle.demands.specs.Lin.{WellBoard, lin_own, LinRecord}

-- All boards are well.
pub data AllWell : List LinBoard → Type 0 where
  none_well : AllWell []
  one_well : {b : LinBoard} {bs : List LinBoard} → WellBoard b → AllWell bs → AllWell (b ∷ bs)

-- Each board's lines; the header in the first record, the empty line (an LF, 10) before the next board in all but the last.
abbrev pub lin_records : Conventions → List LinBoard → List (List ℕ)
lin_records c [] = []
lin_records c (b ∷ bs) = part_records (lin_own c) (built_in_header ++ lin_own c b) bs

-- The records of boards one by one.
pub data EachRecord (c : Conventions) : List LinBoard → List (List ℕ) → Type 0 where
  no_record : EachRecord c [] []
  a_record : {b : LinBoard} {bs : List LinBoard} {r : List ℕ} {rs : List (List ℕ)} → LinRecord c b r → EachRecord c bs rs → EachRecord c (b ∷ bs) (r ∷ rs)
