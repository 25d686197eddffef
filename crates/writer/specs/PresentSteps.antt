-- Which names are written, decided by their numbers alone.
use Rattle.std.specs.Prelude.{ℕ, Bool, true, false, cond, not, List, [], ◌∷◌, eqb, ltb, drop}
use Rattle.std.proofs.Math.Option.{Option, none, some}
use Rattle.reader.specs.Names.{board_name, dealer_name, auction_name, play_name, note_name, double_dummy_tricks_name, optimum_result_table_name, optimum_score_name, par_contract_name}
use Rattle.reader.specs.Plain.{TagPair, PlainAuction, PlainBoard}
use Rattle.writer.specs.declared.present.Present.{Present}
use Rattle.writer.specs.Sections.{note_values}

abbrev pub is_there : {A : Type 0} → Option A → Bool
is_there none = false
is_there (some x) = true

abbrev pub is_any : List (List ℕ) → Bool
is_any [] = false
is_any (v ∷ vs) = true

abbrev pub has_notes : List TagPair → Option PlainAuction → Bool
has_notes ts none = false
has_notes ts (some a) = is_any (note_values (drop a.before ts))

unfoldable pub present_of : PlainBoard → Present
present_of b =
    record {
      board = is_there b.values.id;
      dealer = ltb b.id.dealer 4;
      table = not (eqb b.table.kind 0);
      score = is_there b.values.score;
      par = is_there b.values.par;
      auction = is_there b.auction;
      notes = has_notes b.tags b.auction;
      play = is_there b.play;
    }

-- Whether a tag is written whose name has the number k, and stands on the board where k is 0: OptimumResultTable never is.
unfoldable pub is_tag_written : Present → ℕ → Bool
is_tag_written p k =
    cond (eqb k board_name) p.board
    (cond (eqb k dealer_name) p.dealer
    (cond (eqb k auction_name) p.auction
    (cond (eqb k play_name) p.play
    (cond (eqb k note_name) p.notes
    (cond (eqb k double_dummy_tricks_name) p.table
    (cond (eqb k optimum_result_table_name) false
    (cond (eqb k optimum_score_name) p.score
    (cond (eqb k par_contract_name) p.par true))))))))
