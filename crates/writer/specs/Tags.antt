-- Which tags of a board are written, in the order of writer.rs, each with its value and the data lines of its section.
use Rattle.std.specs.Prelude.{ℕ, ◌-◌, Bool, false, cond, ◌&&◌, ◌||◌, not, List, [], ◌∷◌, ◌++◌, map, eqb, ltb, drop}
use Prim.Native.String.{String}
use Rattle.std.proofs.Math.Option.{Option, none, some}
use Rattle.tables.specs.declared.letters.Conventions.{Conventions}
use Rattle.tables.specs.Text.{ascii}
use Rattle.tables.specs.Numbers.{decimal}
use Rattle.tables.specs.Letters.{seat_letter}
use Rattle.tables.specs.Tables.{digits_text}
use Rattle.reader.specs.declared.board.Identity.{Identity}
use Rattle.reader.specs.declared.board.TableCard.{TableCard}
use Rattle.reader.specs.Words.{same, vulnerability_token}
use Rattle.reader.specs.Names.{tag_number}
use Rattle.reader.specs.Deals.{hands_of_words, deal_text}
use Rattle.reader.specs.Plain.{TagPair, PlainAuction, PlainPlay, PlainBoard}
use Rattle.writer.specs.Sections.{auction_lines, note_values}

-- A written tag: its name, its value, and the data lines that follow it.
pub record WrittenTag : Type 0 where
  pub name : List ℕ
  pub value : List ℕ
  pub lines : List (List ℕ)

abbrev pub tag_of : String → List ℕ → WrittenTag
tag_of name value = record { name = ascii name; value = value; lines = [] }

-- ---- values

-- Empty where absent.
abbrev pub or_empty : Option (List ℕ) → List ℕ
or_empty none = []
or_empty (some v) = v

-- A tag that is written only where there is a value.
abbrev pub if_there : String → Option (List ℕ) → List WrittenTag
if_there name none = []
if_there name (some v) = tag_of name v ∷ []

-- A seat's letter; no bytes for none (4).
unfoldable pub seat_text : Conventions → ℕ → List ℕ
seat_text c s = cond (ltb s 4) (seat_letter c s ∷ []) []

-- The vulnerability as the card has it: None where none was read.
abbrev pub vulnerability : Identity → ℕ
vulnerability i = cond (eqb i.vulnerability 4) 0 i.vulnerability

-- A result in decimal, `-` (45) before a negative one; it is kept as the result plus 128.
unfoldable pub result_text : Identity → List ℕ
result_text i = cond (eqb i.result_met 0) [] (cond (ltb i.result 128) (45 ∷ decimal (128 - i.result)) (decimal (i.result - 128)))

-- A deal that did not parse, as it was read; else the hands from the dealer's seat, from North where there is no dealer.
abbrev pub first_seat : ℕ → ℕ
first_seat dealer = cond (ltb dealer 4) dealer 0

abbrev pub deal_value : Conventions → PlainBoard → Option (List ℕ) → List ℕ
deal_value c b none = deal_text c (first_seat b.id.dealer) (hands_of_words b.deal.words)
deal_value c b (some v) = v

-- ---- supplemental tags: those whose name is none of the 21 that the reader knows

abbrev pub is_named : List ℕ → TagPair → Bool
is_named n t = same n t.name

-- One of the tags has the name.
abbrev pub named : List ℕ → List TagPair → Bool
named n [] = false
named n (t ∷ ts) = is_named n t || named n ts

-- The value of the first tag of the name, empty where there is none.
abbrev pub first_value : List ℕ → List TagPair → List ℕ
first_value n [] = []
first_value n (t ∷ ts) = cond (is_named n t) t.value (first_value n ts)

-- A supplemental tag other than Scoring, which has its own line.
unfoldable pub is_extra : TagPair → Bool
is_extra t = eqb (tag_number t.name) 0 && not (is_named (ascii "Scoring") t)

-- The supplemental tags in the order met, each name once, with its first value; seen are the tags before them.
abbrev pub extras_from : List TagPair → List TagPair → List WrittenTag
extras_from seen [] = []
extras_from seen (t ∷ ts) =
    cond (is_extra t && not (named t.name seen))
    (record { name = t.name; value = t.value; lines = [] } ∷ extras_from (seen ++ t ∷ []) ts)
    (extras_from (seen ++ t ∷ []) ts)

-- The tags before the first Deal tag, and from there on. Without a Deal tag none stands before it.
abbrev pub until_deal : List TagPair → List TagPair
until_deal [] = []
until_deal (t ∷ ts) = cond (is_named (ascii "Deal") t) [] (t ∷ until_deal ts)

abbrev pub since_deal : List TagPair → List TagPair
since_deal [] = []
since_deal (t ∷ ts) = cond (is_named (ascii "Deal") t) (t ∷ ts) (since_deal ts)

abbrev pub before_deal : List TagPair → List TagPair
before_deal ts = cond (named (ascii "Deal") ts) (until_deal ts) []

abbrev pub from_deal : List TagPair → List TagPair
from_deal ts = cond (named (ascii "Deal") ts) (since_deal ts) ts

-- Early ones: the name stands before the first Deal tag. The others: it does not.
unfoldable pub early_extras : List TagPair → List WrittenTag
early_extras ts = extras_from [] (before_deal ts)

unfoldable pub late_extras : List TagPair → List WrittenTag
late_extras ts = extras_from (before_deal ts) (from_deal ts)

-- ---- the tags of a board

-- The dealer, where there is one.
abbrev pub dealer_tags : Conventions → ℕ → List WrittenTag
dealer_tags c dealer = cond (ltb dealer 4) (tag_of "Dealer" (seat_text c dealer) ∷ []) []

-- Event, Site, Date; Board where there is an id; the players from West on; the dealer, the vulnerability.
unfoldable pub head_tags : Conventions → PlainBoard → List WrittenTag
head_tags c b =
    tag_of "Event" (or_empty b.values.event)
    ∷ tag_of "Site" (or_empty b.values.site)
    ∷ tag_of "Date" (or_empty b.values.date)
    ∷ (if_there "Board" b.values.id
    ++ (tag_of "West" (or_empty b.values.west)
    ∷ tag_of "North" (or_empty b.values.north)
    ∷ tag_of "East" (or_empty b.values.east)
    ∷ tag_of "South" (or_empty b.values.south)
    ∷ (dealer_tags c b.id.dealer
    ++ (tag_of "Vulnerable" (vulnerability_token (vulnerability b.id)) ∷ []))))

-- The table, from whichever tag it was read.
unfoldable pub table_tags : TableCard → List WrittenTag
table_tags t = cond (eqb t.kind 0) [] (tag_of "DoubleDummyTricks" (digits_text t.cells) ∷ [])

-- Deal, Scoring, Declarer, Contract and Result; the table, the optimum score and the par contract where there are any.
unfoldable pub deal_tags : Conventions → PlainBoard → List WrittenTag
deal_tags c b =
    tag_of "Deal" (deal_value c b b.values.deal)
    ∷ tag_of "Scoring" (first_value (ascii "Scoring") b.tags)
    ∷ tag_of "Declarer" (seat_text c b.id.declarer)
    ∷ tag_of "Contract" (or_empty b.values.contract)
    ∷ tag_of "Result" (result_text b.id)
    ∷ (table_tags b.table ++ (if_there "OptimumScore" b.values.score ++ if_there "ParContract" b.values.par))

-- The auction with its rounds, then its notes: the Note tags behind its calls.
abbrev pub note_tag : List ℕ → WrittenTag
note_tag v = tag_of "Note" v

unfoldable pub auction_tags : Conventions → List TagPair → Option PlainAuction → List WrittenTag
auction_tags c ts none = []
auction_tags c ts (some a) =
    record { name = ascii "Auction"; value = seat_text c a.dealer; lines = auction_lines c a }
    ∷ map note_tag (note_values (drop a.before ts))

-- The play; its data lines are given.
unfoldable pub play_tags : Conventions → List (List ℕ) → Option PlainPlay → List WrittenTag
play_tags c play none = []
play_tags c play (some p) = record { name = ascii "Play"; value = seat_text c p.leader; lines = play } ∷ []

-- All of them, in order.
unfoldable pub written_tags : Conventions → PlainBoard → List (List ℕ) → List WrittenTag
written_tags c b play =
    head_tags c b
    ++ (early_extras b.tags
    ++ (deal_tags c b
    ++ (late_extras b.tags
    ++ (auction_tags c b.tags b.auction
    ++ play_tags c play b.play))))
