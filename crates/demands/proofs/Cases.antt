-- The table of cases, by computing.
use mathlib.Core.Path.{refl}
use Rattle.tables.specs.Text.{is_white, is_inside, trimmed}
use Rattle.tables.specs.Letters.{built_in, capital, seat_of, suit_of}
use Rattle.tables.specs.Tables.{digit_of, digits_reading, table_of_digits, row_order, cell_of, fields_row, row_of, gathered, table_of_rows}
use Rattle.reader.specs.Tag.{trim_span, trim_part, bracket_of, ends_quoted, name_of, is_quoted, value_of, is_comment, comment_of, tag_line, data_bracket, data_after, split_of}
use Rattle.reader.specs.Lines.{is_blank, has_brace, split_line, bracket_line, line_kind}
use Rattle.reader.specs.Names.{tag_names, tag_number}
use Rattle.reader.specs.Sections.{commentary_after}
use Rattle.reader.specs.Store.{entry_words}
use Rattle.reader.specs.Boards.{identity_by, deal_by, table_by, contract_by, is_kept_value, is_kept, values_by, applied, open_by, closed, tagged, tag_line_out, line_out, record_out}
use Rattle.reader.specs.Records.{scanned, closes_record, records_of}
use Rattle.reader.specs.Editions.{card_words, cards_of, entries_of}
use Rattle.demands.specs.Cases.{Cases}

pub cases : Cases
unfolding is_white is_inside trimmed built_in capital seat_of suit_of digit_of digits_reading table_of_digits row_order cell_of fields_row row_of gathered table_of_rows trim_span trim_part bracket_of ends_quoted name_of is_quoted value_of is_comment comment_of tag_line data_bracket data_after split_of is_blank has_brace split_line bracket_line line_kind tag_names tag_number commentary_after identity_by deal_by table_by contract_by is_kept_value is_kept values_by applied open_by closed tagged tag_line_out line_out record_out scanned closes_record records_of entry_words card_words cards_of entries_of
cases =
    record {
      empty_name = refl;
      quoted_bracket = refl;
      comment_directive = refl;
      brace_dropped = refl;
      brace_opens_nothing = refl;
      result_13 = refl;
      result_14 = refl;
      result_256 = refl;
      result_plus_9 = refl;
      north_notrump = refl;
      nineteen_cells = refl;
      nineteen_digits = refl;
      digit_e = refl;
      result_128_present = refl;
      result_128_kept = refl;
      result_129_absent = refl;
    }
