-- How the code puts board after board.
use Rattle.std.specs.Prelude.{ℕ, ◌+◌, ◌≡◌, Bool, true, false, cond, ◌&&◌, ◌||◌, not, Option, Some, IfSome, is_some, List, [], ◌∷◌, ◌++◌, map, eqb, length, drop}
use Rattle.tables.specs.declared.letters.Conventions.{Conventions}
use Rattle.reader.specs.declared.deal.Hands.{Hands}
use Rattle.tables.specs.declared.page.Page.{Page}
use Rattle.tables.specs.Puts.{Puts}
use Rattle.writer.specs.Pages.{built_in_header}
use Rattle.writer.specs.Remarks.{lines_text}
use Rattle.tables.specs.Text.{lines}
use Rattle.tables.specs.declared.lines.Lines.{Lines}
use Rattle.lin.specs.declared.pieces.Progress.{Progress}
use Rattle.lin.specs.declared.pairs.Command.TheVariants.{Qx, Heading, Md}
use Rattle.lin.specs.Pairs.{Pair, is_pair, has_pair}
use Rattle.lin.specs.Dealing.{has_card, is_deal}
use Rattle.lin.specs.LinBoards.{LinBoard, board_of, any_card, all_deals, lin_lines, lin_page}

-- ---- lines

-- The lines that are left.
abbrev pub lines_left : Lines → List (List ℕ)
lines_left s = lines (drop s.next s.text.now)

-- ---- pieces, pair by pair: own are the pairs of the piece so far, run the mn and pn behind them

-- There is one.
abbrev pub is_any : {A : Type 0} → List A → Bool
is_any [] = false
is_any (x ∷ xs) = true

abbrev pub split_from : List Pair → List Pair → List Pair → List (List Pair)
split_from own run [] = (own ++ run) ∷ []
split_from own run (p ∷ ps) =
    cond (is_pair Heading p) (split_from own (run ++ p ∷ []) ps)
    (cond (is_pair Qx p && is_any own) (own ∷ split_from (run ++ p ∷ []) [] ps) (split_from (own ++ (run ++ p ∷ [])) [] ps))

-- ---- progress

abbrev pub no_progress : Progress
no_progress = record { boards = 0; any = false }

-- What stands above a board: the built-in header, or an empty line (10).
unfoldable pub above_text : Bool → List ℕ
above_text first = cond first built_in_header (10 ∷ [])

unfoldable pub any_bits : Hands → Bool
any_bits h = not (eqb h.north 0) || (not (eqb h.east 0) || (not (eqb h.south 0) || not (eqb h.west 0)))

-- What a board adds to the page: what stands above it, and its lines.
abbrev pub part_text : Conventions → Bool → LinBoard → List ℕ
part_text c first b = above_text first ++ lines_text (lin_lines c b)

-- A board that was put.
pub record BoardPut (c : Conventions) (b : LinBoard) (p : Page) (g : Progress) (q : Page) (r : Progress) : Type 0 where
  pub any_is : r.any ≡ (g.any || has_card b.dealing)
  pub boards_are : r.boards ≡ g.boards + 1
  pub puts : Puts p (part_text c (eqb g.boards 0) b) q

-- The same lent bytes, whatever they hold.
pub record SameLent (p q : Page) : Type 0 where
  pub kept : length q.bytes.now ≡ length p.bytes.now
  pub same : q.bytes.ghost_name ≡ p.bytes.ghost_name

-- The board of the pairs ps: it is put where it makes a deal.
pub record Goes (c : Conventions) (ps : List Pair) (p : Page) (g : Progress) (q : Page) (r : Option Progress) : Type 0 where
  pub some_is : is_some r ≡ is_deal (board_of c ps).dealing
  pub goes : IfSome r (λ h. BoardPut c (board_of c ps) p g q h)
  pub lent : SameLent p q

-- The same, where the pairs have an md; else nothing.
pub record GoesIf (c : Conventions) (ps : List Pair) (p : Page) (g : Progress) (q : Page) (r : Option Progress) : Type 0 where
  pub skips : has_pair Md ps ≡ false → (q ≡ p) × (r ≡ Some g)
  pub takes : has_pair Md ps ≡ true → Goes c ps p g q r

-- ---- all boards

-- Some boards, which all make deals, were put on the page p₀.
pub record Gone (c : Conventions) (bs : List LinBoard) (p₀ p : Page) (g : Progress) : Type 0 where
  pub deals : all_deals bs ≡ true
  pub any_is : g.any ≡ any_card bs
  pub boards_are : g.boards ≡ length bs
  pub puts : Puts p₀ (cond (eqb (length bs) 0) [] (lin_page c bs)) p

-- The boards of the pieces were put, where all make deals.
pub record GoesAll (c : Conventions) (pieces : List (List Pair)) (p₀ p : Page) (r : Option Progress) : Type 0 where
  pub some_is : is_some r ≡ all_deals (map (board_of c) pieces)
  pub gone : IfSome r (λ g. Gone c (map (board_of c) pieces) p₀ p g)
  pub lent : SameLent p₀ p
