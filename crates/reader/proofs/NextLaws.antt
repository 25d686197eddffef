-- Laws of the search for a section's next data line.
use Prim.Native.Nat.{ℕ, zero, suc, ◌+◌, ◌≤◌}
use mathlib.Core.Path.{◌≡◌, refl, sym, ap, ◌∙◌}
use mathlib.Core.Bool.{Bool, true, false, cond}
use mathlib.Core.Logic.{◌⊎◌, inl, inr}
use mathlib.Core.List.{List, [], ◌∷◌, ◌++◌}
use native.Mathlib.Omega.{arith}
use lib.ListN.{length, take, drop}
use lib.Seq.{drop-drop}
use Rattle.reader.specs.declared.tag.Span.{Span}
use Rattle.reader.specs.declared.line.Line.{Line}
use Rattle.reader.specs.declared.line.TagReading.{TagReading}
use Rattle.reader.specs.declared.line.Line.TheVariants.{Blank, Brace, Directive, Tag as TagOn, Bracket, Data}
use Rattle.reader.specs.Tag.{cut}
use Rattle.reader.specs.Lines.{line_kind}
use Rattle.reader.specs.Pieces.{Piece, raw_lines}
use Rattle.reader.specs.PieceSteps.{piece}
use Rattle.reader.specs.Sections.{opens_commentary, commentary_after, closes_section, stops_at, data_piece, piece_of, data_in}
use Rattle.reader.specs.SectionSteps.{data_from, PieceFrom}
use Rattle.reader.proofs.SectionLaws.{LineAt}

-- ---- a line of the section

-- The data from the line l on, outside commentary, at the place p, by the kind of l; ls are the lines after it.
abbrev kind_data : Bool → ℕ → List ℕ → List (List ℕ) → Line → List Piece
kind_data commentary p l ls Blank = []
kind_data commentary p l ls Brace = data_in commentary (p + length l) ls
kind_data commentary p l ls (Directive s) = data_in commentary (p + length l) ls
kind_data commentary p l ls (TagOn t) = []
kind_data commentary p l ls Bracket = data_in commentary (p + length l) ls
kind_data commentary p l ls (Data s) = piece (p + s.start) (cut s l) ∷ data_in false (p + length l) ls

by_kind : (k : Line) (p : ℕ) (l : List ℕ) (ls : List (List ℕ))
    → cond (closes_section k) [] (data_piece p l k ++ data_in (opens_commentary k l) (p + length l) ls) ≡ kind_data (opens_commentary k l) p l ls k
by_kind Blank p l ls = refl
by_kind Brace p l ls = refl
by_kind (Directive s) p l ls = refl
by_kind (TagOn t) p l ls = refl
by_kind Bracket p l ls = refl
by_kind (Data s) p l ls = refl

kind_data_lem : (p : ℕ) (l : List ℕ) (ls : List (List ℕ)) (k : Line) → line_kind l ≡ k → data_in false p (l ∷ ls) ≡ kind_data (commentary_after false l) p l ls k
unfolding stops_at piece_of commentary_after
kind_data_lem p l ls k e = by_kind (line_kind l) p l ls ∙ ap (kind_data (opens_commentary (line_kind l) l) p l ls) e

passed : (p : ℕ) (l : List ℕ) (ls : List (List ℕ)) → data_in true p (l ∷ ls) ≡ data_in (commentary_after true l) (p + length l) ls
unfolding stops_at piece_of commentary_after
passed p l ls = refl

-- ---- the piece of a data line

-- A part of a line is a part of the text that the line stands in.
take_less : (n m : ℕ) (s : List ℕ) → n ≤ m → take n (take m s) ≡ take n s
take_less zero m s h = refl
take_less (suc n) zero s h = absurd (omega arith)
take_less (suc n) (suc m) [] h = refl
take_less (suc n) (suc m) (b ∷ bs) h = ap (λ (l : List ℕ). b ∷ l) (take_less n m bs (omega arith))

part_less : (n d m : ℕ) (s : List ℕ) → d + n ≤ m → take n (drop d (take m s)) ≡ take n (drop d s)
part_less n zero m s h = take_less n m s (omega arith)
part_less n (suc d) zero s h = absurd (omega arith)
part_less n (suc d) (suc m) [] h = refl
part_less n (suc d) (suc m) (b ∷ bs) h = part_less n d m bs (omega arith)

line_cut : (r : List ℕ) (e : ℕ) (l : List ℕ) (s : Span) → LineAt r e l → s.start + s.len ≤ length l → cut s l ≡ take s.len (drop (e + s.start) r)
line_cut r e l s q h =
    ap (λ (x : List ℕ). take s.len (drop s.start x)) q.bytes
    ∙ part_less s.len s.start (length l) (drop e r) h
    ∙ ap (take s.len) (drop-drop s.start e r)

-- ---- the loop

-- The search began at p and goes on at the place e.
pub record Seeking (r : List ℕ) (p : ℕ) (commentary : Bool) (e : ℕ) : Type 0 where
  pub lines : data_in false p (raw_lines (drop p r)) ≡ data_in commentary e (raw_lines (drop e r))
  pub from_p : p ≤ e
  pub inside : e ≤ length r

module _ (r : List ℕ) (p : ℕ) where
  pub seek_commentary : (commentary : Bool) (e : ℕ) (l : List ℕ) → Seeking r p commentary e → LineAt r e l → commentary ≡ true → Seeking r p (commentary_after commentary l) (e + length l)
  seek_commentary commentary e l k q h =
      record {
        lines = rw h (rw h at k.lines ∙ (ap (data_in true e) q.lines ∙ passed e l (raw_lines (drop (e + length l) r))));
        from_p = omega (arith, k.from_p);
        inside = q.inside;
      }

  seek_line : (commentary : Bool) (e : ℕ) (l : List ℕ) (v : Line) → Seeking r p commentary e → LineAt r e l → commentary ≡ false → line_kind l ≡ v
      → data_in false p (raw_lines (drop p r)) ≡ kind_data (commentary_after false l) e l (raw_lines (drop (e + length l) r)) v
  seek_line commentary e l v k q h i = rw h at k.lines ∙ (ap (data_in false e) q.lines ∙ kind_data_lem e l (raw_lines (drop (e + length l) r)) v i)

  pub seek_pass : (commentary : Bool) (e : ℕ) (l : List ℕ) (v : Line) → Seeking r p commentary e → LineAt r e l → commentary ≡ false → v ≡ line_kind l
      → (v ≡ Brace) ⊎ ((s : Span) × v ≡ Directive s) ⊎ (v ≡ Bracket) → Seeking r p (commentary_after commentary l) (e + length l)
  seek_pass commentary e l v k q h i x =
      let ls = raw_lines (drop (e + length l) r) in
      let passes : kind_data (commentary_after false l) e l ls v ≡ data_in (commentary_after false l) (e + length l) ls =
      elim x [
        | inl y ↦ rw y refl
        | inr z ↦ elim z [
          | inl (s, y) ↦ rw y refl
          | inr y ↦ rw y refl
        ]
      ] in
      record { lines = rw h (seek_line commentary e l v k q h (sym i) ∙ passes); from_p = omega (arith, k.from_p); inside = q.inside }

  pub seek_stop : (commentary : Bool) (e : ℕ) (l : List ℕ) (v : Line) → Seeking r p commentary e → LineAt r e l → commentary ≡ false → v ≡ line_kind l
      → (v ≡ Blank) ⊎ ((t : TagReading) × v ≡ TagOn t) → data_from r p ≡ []
  seek_stop commentary e l v k q h i x =
      let ls = raw_lines (drop (e + length l) r) in
      seek_line commentary e l v k q h (sym i)
      ∙ elim x [
        | inl y ↦ ap (kind_data (commentary_after false l) e l ls) y
        | inr (t, y) ↦ ap (kind_data (commentary_after false l) e l ls) y
      ]

  pub seek_piece : (commentary : Bool) (e : ℕ) (l : List ℕ) (s : Span) → Seeking r p commentary e → LineAt r e l → commentary ≡ false → line_kind l ≡ Data s → s.start + s.len ≤ length l
      → PieceFrom r p (record { piece = record { start = e + s.start; len = s.len }; at = e + length l })
  seek_piece commentary e l s k q h j i =
      record {
        data_lines = rw (← line_cut r e l s q i) (seek_line commentary e l (Data s) k q h j);
        piece_inside = omega (arith, q.inside, i);
        inside = q.inside;
        past = omega (arith, k.from_p, i);
        later = omega (arith, k.from_p, q.filled);
      }
