-- Laws of the end of a record.
use Prim.Native.Nat.{ℕ, ◌+◌, ◌-◌, ◌≤◌, ◌<◌}
use mathlib.Core.Path.{◌≡◌, refl, ap, ◌∙◌}
use mathlib.Core.Bool.{Bool, true, false}
use mathlib.Core.List.{List, [], ◌++◌}
use native.Mathlib.Omega.{arith}
use lib.ListN.{length, take, drop}
use lib.Seq.{take-add, drop-drop}
use Rattle.tables.proofs.Laws.{stop}
use Rattle.reader.specs.declared.record.Scan.{Scan}
use Rattle.reader.specs.Pieces.{raw_lines}
use Rattle.reader.specs.Records.{fresh, scanned, closes_record, emit, records_from, records_of}
use Rattle.reader.specs.RecordSteps.{EndsAt, FirstEnd}
use Rattle.std.specs.Bool.{then_some}
use Rattle.reader.proofs.SectionLaws.{LineAt}

-- The walk from a, at the place e.
pub record Scanning (text : List ℕ) (a e : ℕ) (s : Scan) : Type 0 where
  pub from_a : a ≤ e
  pub inside : e ≤ length text
  pub tag_after : s.met ≡ true → a < e
  pub left : records_of (drop a text) ≡ records_from s (take (e - a) (drop a text)) (raw_lines (drop e text))

pub scanning : (text : List ℕ) (a : ℕ) → a ≤ length text → Scanning text a a fresh
unfolding records_of
scanning text a h =
    let z : a - a ≡ 0 = omega arith in
    record { from_a = omega arith; inside = omega arith; tag_after = λ e. cc; left = rw z }

longer : (text : List ℕ) (a e : ℕ) (l : List ℕ) → a ≤ e → LineAt text e l → take (e - a) (drop a text) ++ l ≡ take (e + length l - a) (drop a text)
longer text a e l h q =
    let d : e + length l - a ≡ (e - a) + length l = omega arith in
    let m : a + (e - a) ≡ e = omega arith in
    rw (d, take-add (e - a) (length l) (drop a text), drop-drop (e - a) a text, m) (ap (λ (x : List ℕ). take (e - a) (drop a text) ++ x) q.bytes)

pub scan_on : {text : List ℕ} {a e : ℕ} {s : Scan} {l : List ℕ} → Scanning text a e s → LineAt text e l → closes_record s l ≡ false → Scanning text a (e + length l) (scanned s l)
scan_on {text} {a} {e} {s} {l} k q c =
    record {
      from_a = omega (arith, k.from_a);
      inside = q.inside;
      tag_after = λ u. omega (arith, k.from_a, q.filled);
      left = rw (← longer text a e l k.from_a q) (k.left ∙ rw (q.lines, c));
    }

pub scan_closed : {text : List ℕ} {a e : ℕ} {s : Scan} {l : List ℕ} → Scanning text a e s → LineAt text e l → closes_record s l ≡ true
    → EndsAt text a (e + length l)
unfolding records_of
scan_closed {text} {a} {e} {s} {l} k q c =
    record {
      inside = q.inside;
      after = omega (arith, k.from_a, q.filled);
      first = rw (← longer text a e l k.from_a q) (k.left ∙ rw (q.lines, c));
    }

pub scan_ended : {text : List ℕ} {a e : ℕ} {s : Scan} → length text ≤ e → Scanning text a e s → FirstEnd text a (then_some s.met e)
unfolding records_of
scan_ended {text} {a} {e} {s} z k = by s.met k.tag_after (k.left ∙ rw (stop text e z))
  where
    by : (b : Bool) → (b ≡ true → a < e) → records_of (drop a text) ≡ emit b (take (e - a) (drop a text)) [] → FirstEnd text a (then_some b e)
    by true h q = record { inside = k.inside; after = h refl; first = rw (stop text e z) q }
    by false h q = q
