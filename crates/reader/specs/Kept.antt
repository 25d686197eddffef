-- What a board keeps of its record: the deal, the values and the table, as its tags leave them. Proved of every record in proofs:
-- PlainValues, PlainDeal, PlainBounds; of its card in CardKept.
use Rattle.std.specs.Prelude.{ℕ, ◌≤◌, ◌≡◌, true, cond, ◌&&◌, List, [], ◌∷◌, map, eqb, leb, length, get_or, take, drop, replicate, Some, None}
use Rattle.std.proofs.Math.Option.{Option, none, some}
use Rattle.tables.specs.declared.letters.Conventions.{Conventions}
use Rattle.tables.specs.Letters.{every}
use Rattle.reader.specs.declared.deal.Hands.{Hands}
use Rattle.reader.specs.declared.board.TableCard.{TableCard}
use Rattle.reader.specs.Names.{tag_number, board_name, deal_name, event_name, site_name, date_name, contract_name, north_name, east_name, south_name, west_name, optimum_score_name, par_contract_name}
use Rattle.reader.specs.Deals.{DealRead, deal_of, hand_words, hands_of_words, Proper}
use Rattle.reader.specs.Boards.{is_kept}
use Rattle.reader.specs.Plain.{TagPair, PlainBoard, plain_list}

-- The tags change a by f, one after the other.
abbrev pub after : {A : Type 0} → (A → TagPair → A) → A → List TagPair → A
after f a [] = a
after f a (t ∷ ts) = after f (f a t) ts

-- ---- values

-- The value v of a tag of number k, after one more tag.
abbrev pub kept_by : Conventions → ℕ → Option (List ℕ) → TagPair → Option (List ℕ)
kept_by c k v t = cond (eqb (tag_number t.name) k && is_kept c k t.value) (some t.value) v

-- The value of the last tag of number k whose value is kept.
abbrev pub last_kept : Conventions → ℕ → List TagPair → Option (List ℕ)
last_kept c k ts = after (kept_by c k) none ts

-- The tags whose values are kept, in the order of the card's words 39 to 50: Board, Event, Site, Date, Contract, the names of N, E, S, W,
-- Deal, OptimumScore, ParContract.
abbrev pub value_numbers : List ℕ
value_numbers =
    board_name ∷ event_name ∷ site_name ∷ date_name ∷ contract_name ∷ north_name ∷ east_name ∷ south_name
    ∷ west_name ∷ deal_name ∷ optimum_score_name ∷ par_contract_name ∷ []

-- Each value is that of the last tag of its name whose value is kept.
pub record ValuesKept (c : Conventions) (p : PlainBoard) : Type 0 where
  pub values_are : plain_list p.values ≡ map (λ k. last_kept c k p.tags) value_numbers

-- ---- the deal

-- The hands o, after one more tag: those of a Deal tag that parses.
abbrev pub hands_read : DealRead → Option Hands → Option Hands
hands_read (Some h) o = some h
hands_read None o = o

abbrev pub hands_by : Conventions → Option Hands → TagPair → Option Hands
hands_by c o t = cond (eqb (tag_number t.name) deal_name) (hands_read (deal_of c t.value) o) o

-- The hands of the last Deal tag that parsed.
abbrev pub last_hands : Conventions → List TagPair → Option Hands
last_hands c ts = after (hands_by c) none ts

-- Word 9: 0 none, 1 parsed, 2 kept unparsed, which wins.
abbrev pub deal_kind : Option Hands → Option (List ℕ) → ℕ
deal_kind none none = 0
deal_kind (some h) none = 1
deal_kind none (some v) = 2
deal_kind (some h) (some v) = 2

-- Words 10 to 17: the hands of the last deal that parsed, zero if none did.
abbrev pub words_kept : Option Hands → List ℕ
words_kept none = replicate 8 0
words_kept (some h) = hand_words h

-- Words 9 to 17 of a board's card. Its hands are those of a deal, and the words and the hands give each other. A Deal value that is kept
-- unparsed is read as no deal again, and is not blank, so that it is kept again.
pub record DealKept (c : Conventions) (p : PlainBoard) : Type 0 where
  pub kind_is : p.deal.kind ≡ deal_kind (last_hands c p.tags) p.values.deal
  pub words_are : p.deal.words ≡ words_kept (last_hands c p.tags)
  pub hands_proper : Proper (hands_of_words p.deal.words)
  pub words_back : hand_words (hands_of_words p.deal.words) ≡ p.deal.words
  pub read_again : (v : List ℕ) → p.values.deal ≡ some v → deal_of c v ≡ None
  pub kept_again : (v : List ℕ) → p.values.deal ≡ some v → is_kept c deal_name v ≡ true

-- ---- the table

-- Words 18 to 38: twenty counts of tricks, each at most 13; all zero where there is no table.
pub record TableKept (t : TableCard) : Type 0 where
  pub kind_low : t.kind ≤ 2
  pub twenty : length t.cells ≡ 20
  pub cells_low : every (λ n. leb n 13) t.cells ≡ true
  pub none_zero : t.kind ≡ 0 → t.cells ≡ replicate 20 0

-- ---- the card

-- Words 9 to 38 of a card are those of its plain board.
pub record OnCard (card : List ℕ) (p : PlainBoard) : Type 0 where
  pub word_9 : get_or card 9 0 ≡ p.deal.kind
  pub words_10 : take 8 (drop 10 card) ≡ p.deal.words
  pub words_18 : take 20 (drop 18 card) ≡ p.table.cells
  pub word_38 : get_or card 38 0 ≡ p.table.kind
