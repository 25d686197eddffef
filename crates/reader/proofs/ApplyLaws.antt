-- What a tag does to a board, part by part.
use Rattle.reader.specs.Sections.{span_of}
use Rattle.reader.specs.declared.section.Kind.TheVariants.{Auction, Play, Optimum}
use Rattle.reader.specs.declared.section.Kind.{Kind}
use Rattle.reader.specs.Sections.{lines_at, split_off}
use Prim.Native.Nat.{ℕ, ◌+◌, ◌≤◌, ◌<◌}
use mathlib.Core.Path.{◌≡◌, refl}
use mathlib.Core.Logic.{◌⊎◌, inl, inr}
use mathlib.Core.List.{List}
use mathlib.Core.Bool.{Bool, true, false, cond, ◌&&◌, not}
use native.Mathlib.Omega.{arith}
use borrow.Author.Tests.{lt-ltb}
use lib.Dec.{eqb, ltb}
use lib.ListN.{length}
use Rattle.tables.specs.declared.letters.Conventions.{Conventions}
use Rattle.tables.specs.Text.{trimmed, first_character}
use Rattle.tables.specs.Letters.{seat_of}
use Rattle.tables.specs.Tables.{table_of_digits}
use Rattle.std.specs.Prelude.{Some, None, Option, IfSome, unwrap_or}
use Rattle.reader.specs.declared.tag.Span.{Span}
use Rattle.reader.specs.declared.section.Open.{Open}
use Rattle.reader.specs.declared.board.Identity.{Identity}
use Rattle.reader.specs.declared.board.DealCard.{DealCard}
use Rattle.reader.specs.declared.board.TableCard.{TableCard}
use Rattle.reader.specs.declared.board.Values.{Values}
use Rattle.reader.specs.declared.board.Board.{Board}
use Rattle.reader.specs.Deals.{DealRead, deal_of}
use Rattle.reader.specs.Boards.{deal_read, deal_by, digits_table, table_by, is_kept, value_put, values_by, applied, no_open, seat_open, open_by}

-- ---- by the tag's number

-- A board with some of its parts anew.
abbrev pub with_parts : Board → Identity → DealCard → TableCard → Values → ℕ → Board
with_parts b id deal table values contract =
    record { id = id; deal = deal; table = table; values = values; auction = b.auction; play = b.play; trump = b.trump; contract = contract }

pub same_values : (b : Board) (table : TableCard) (t : Bool) → with_parts b b.id b.deal table (cond t b.values b.values) b.contract ≡ with_parts b b.id b.deal table b.values b.contract
same_values b table true = refl
same_values b table false = refl

-- ---- the deal

-- One that was kept unparsed wins for good. It stands for its own sake, as the next does.
pub deal_unparsed_stays :
    (c : Conventions) (k : ℕ) (value : List ℕ) (place : ℕ) (b : Board) →
    b.deal.kind ≡ 2 →
    (applied c k value place b).deal.kind ≡ 2
unfolding applied deal_by
deal_unparsed_stays c k value place b e = go (eqb k 4) (deal_of c value)
  where
    blank : (t : Bool) → cond t b.deal.kind 2 ≡ 2
    blank true = e
    blank false = refl

    go : (t : Bool) (r : DealRead) → (cond t (deal_read r value b.deal) b.deal).kind ≡ 2
    go true (Some h) = rw e
    go true None = blank (eqb (length (trimmed value)) 0)
    go false r = e

-- ---- the table

-- A table of rows wins for good.
pub table_rows_stay :
    (c : Conventions) (k : ℕ) (value : List ℕ) (place : ℕ) (b : Board) →
    b.table.kind ≡ 2 →
    (applied c k value place b).table ≡ b.table
unfolding applied table_by
table_rows_stay c k value place b e =
    let two : eqb b.table.kind 2 ≡ true = rw e in
    rw two (go (eqb k 18))
  where
    go : (t : Bool) → cond (t && not true) (digits_table (table_of_digits value)) b.table ≡ b.table
    go true = refl
    go false = refl

-- ---- places of values

-- w is v with some places made `place`.
pub record PlacesFrom (place : ℕ) (v w : Values) : Type 0 where
  pub id_from : (w.id ≡ v.id) ⊎ (w.id ≡ place)
  pub event_from : (w.event ≡ v.event) ⊎ (w.event ≡ place)
  pub site_from : (w.site ≡ v.site) ⊎ (w.site ≡ place)
  pub date_from : (w.date ≡ v.date) ⊎ (w.date ≡ place)
  pub contract_came_from : (w.contract ≡ v.contract) ⊎ (w.contract ≡ place)
  pub north_from : (w.north ≡ v.north) ⊎ (w.north ≡ place)
  pub east_from : (w.east ≡ v.east) ⊎ (w.east ≡ place)
  pub south_from : (w.south ≡ v.south) ⊎ (w.south ≡ place)
  pub west_from : (w.west ≡ v.west) ⊎ (w.west ≡ place)
  pub deal_from : (w.deal ≡ v.deal) ⊎ (w.deal ≡ place)
  pub score_from : (w.score ≡ v.score) ⊎ (w.score ≡ place)
  pub par_from : (w.par ≡ v.par) ⊎ (w.par ≡ place)

cond_from : (t : Bool) (place old : ℕ) → (cond t place old ≡ old) ⊎ (cond t place old ≡ place)
cond_from true place old = inr refl
cond_from false place old = inl refl

put_from : (k place : ℕ) (v : Values) → PlacesFrom place v (value_put k place v)
put_from k place v =
    record {
      id_from = cond_from (eqb k 1) place v.id;
      event_from = cond_from (eqb k 5) place v.event;
      site_from = cond_from (eqb k 6) place v.site;
      date_from = cond_from (eqb k 7) place v.date;
      contract_came_from = cond_from (eqb k 9) place v.contract;
      north_from = cond_from (eqb k 11) place v.north;
      east_from = cond_from (eqb k 12) place v.east;
      south_from = cond_from (eqb k 13) place v.south;
      west_from = cond_from (eqb k 14) place v.west;
      deal_from = cond_from (eqb k 4) place v.deal;
      score_from = cond_from (eqb k 20) place v.score;
      par_from = cond_from (eqb k 21) place v.par;
    }

none_from : (place : ℕ) (v : Values) → PlacesFrom place v v
none_from place v =
    record {
      id_from = inl refl;
      event_from = inl refl;
      site_from = inl refl;
      date_from = inl refl;
      contract_came_from = inl refl;
      north_from = inl refl;
      east_from = inl refl;
      south_from = inl refl;
      west_from = inl refl;
      deal_from = inl refl;
      score_from = inl refl;
      par_from = inl refl;
    }

pub applied_from : (c : Conventions) (k : ℕ) (value : List ℕ) (place : ℕ) (b : Board) → PlacesFrom place b.values (applied c k value place b).values
unfolding applied values_by
applied_from c k value place b = go (is_kept c k value)
  where
    go : (t : Bool) → PlacesFrom place b.values (cond t (value_put k place b.values) b.values)
    go true = put_from k place b.values
    go false = none_from place b.values

-- What holds of every place.
pub record AllPlaces (P : ℕ → Type 0) (v : Values) : Type 0 where
  pub id_place : P v.id
  pub event_place : P v.event
  pub site_place : P v.site
  pub date_place : P v.date
  pub contract_place : P v.contract
  pub north_place : P v.north
  pub east_place : P v.east
  pub south_place : P v.south
  pub west_place : P v.west
  pub deal_place : P v.deal
  pub score_place : P v.score
  pub par_place : P v.par

either : (P : ℕ → Type 0) (place old new : ℕ) → P place → P old → (new ≡ old) ⊎ (new ≡ place) → P new
either P place old new p o (inl e) = rw e o
either P place old new p o (inr e) = rw e p

all_from : (P : ℕ → Type 0) (place : ℕ) (v w : Values) → P place → AllPlaces P v → PlacesFrom place v w → AllPlaces P w
all_from P place v w p a f =
    record {
      id_place = either P place v.id w.id p a.id_place f.id_from;
      event_place = either P place v.event w.event p a.event_place f.event_from;
      site_place = either P place v.site w.site p a.site_place f.site_from;
      date_place = either P place v.date w.date p a.date_place f.date_from;
      contract_place = either P place v.contract w.contract p a.contract_place f.contract_came_from;
      north_place = either P place v.north w.north p a.north_place f.north_from;
      east_place = either P place v.east w.east p a.east_place f.east_from;
      south_place = either P place v.south w.south p a.south_place f.south_from;
      west_place = either P place v.west w.west p a.west_place f.west_from;
      deal_place = either P place v.deal w.deal p a.deal_place f.deal_from;
      score_place = either P place v.score w.score p a.score_place f.score_from;
      par_place = either P place v.par w.par p a.par_place f.par_from;
    }

pub applied_places :
    (P : ℕ → Type 0) (c : Conventions) (k : ℕ) (value : List ℕ) (place : ℕ) (b : Board) →
    P place →
    AllPlaces P b.values →
    AllPlaces P (applied c k value place b).values
applied_places P c k value place b p a =
    all_from P place b.values (applied c k value place b).values p a (applied_from c k value place b)

-- ---- sections

-- A section that a tag opens starts, and what was split off ends, no later than was asked.
pub record Opened (at : ℕ) (split : Option Span) (o : Option Open) : Type 0 where
  pub lines_early : lines_at o ≤ at
  pub split_end : (span_of (split_off o)).start + (span_of (split_off o)).len ≤ (span_of split).start + (span_of split).len

opened_any : (at : ℕ) (split : Option Span) (t : Bool) (kind : Kind) → Opened at split (cond t (Some (record { kind = kind; at = at; split = split })) no_open)
opened_any at split true kind = record { lines_early = omega arith; split_end = omega arith }
opened_any at split false kind = record { lines_early = omega arith; split_end = omega arith }

pub open_early : (c : Conventions) (k : ℕ) (value : List ℕ) (at : ℕ) (split : Option Span) → Opened at split (open_by c k value at split)
unfolding open_by
open_early c k value at split = go (eqb k 15) (eqb k 16) (eqb k 19)
  where
    go :
        (p q r : Bool) →
        Opened at split
        (cond p (seat_open Auction (seat_of c (first_character value)) at split)
        (cond q (seat_open Play (seat_of c (first_character value)) at split)
        (cond r (Some (record { kind = Optimum; at = at; split = split })) no_open)))
    go true q r = opened_any at split (ltb (seat_of c (first_character value)) 4) (Auction (seat_of c (first_character value)))
    go false true r = opened_any at split (ltb (seat_of c (first_character value)) 4) (Play (seat_of c (first_character value)))
    go false false r = opened_any at split r Optimum

-- A section with a seat, from the reading of its seat.
pub open_none : (kind : ℕ → Kind) {seat : ℕ} (at : ℕ) (split : Option Span) {r : Option ℕ} → unwrap_or r 4 ≡ seat → r ≡ None → seat_open kind seat at split ≡ None
open_none kind at split e h = rw (← e, h)

pub open_some : (kind : ℕ → Kind) {seat s : ℕ} (at : ℕ) (split : Option Span) {r : Option ℕ} → unwrap_or r 4 ≡ seat → IfSome r (λ n. n < 4) → r ≡ Some s
    → seat_open kind seat at split ≡ Some (record { kind = kind s; at = at; split = split })
open_some kind {s = s} at split e i h =
    let low : s < 4 = rw h at i in
    rw (← e, h, lt-ltb s 4 low)

pub open_auction : (c : Conventions) (k : ℕ) (value : List ℕ) (at : ℕ) (split : Option Span) → k ≡ 15 → open_by c k value at split ≡ seat_open Auction (seat_of c (first_character value)) at split
unfolding open_by
open_auction c k value at split e = rw e

pub open_play : (c : Conventions) (k : ℕ) (value : List ℕ) (at : ℕ) (split : Option Span) → k ≡ 16 → open_by c k value at split ≡ seat_open Play (seat_of c (first_character value)) at split
unfolding open_by
open_play c k value at split e = rw e
