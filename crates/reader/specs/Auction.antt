-- The auction section (PBN 2.1, section 3.5): what each token of its data does.
use Rattle.std.specs.Prelude.{ℕ, suc, ◌+◌, ◌-◌, List, [], ◌∷◌, Bool, true, false, cond, ltb, eqb, length, take}
use Rattle.tables.specs.declared.letters.Conventions.{Conventions}
use Rattle.reader.specs.declared.store.Entry.{Entry}
use Rattle.reader.specs.declared.auction.CallToken.{CallToken}
use Rattle.reader.specs.declared.auction.CallToken.TheVariants.{Plus, Star, AllPass, Annotation, Call, NoCall}
use Rattle.reader.specs.declared.auction.Bidding.{Bidding}
use Rattle.reader.specs.Pieces.{Piece, Out, out_all, entry, tokens_of}
use Rattle.reader.specs.Words.{call_of, call_part, section_end, is_all_pass}

-- A token is `+`, `*` or AP; or a call, with what follows its first `=`, `!`, `?` or `$` as its annotation; or an annotation
-- alone; or nothing.
abbrev pub call_with : ℕ → ℕ → CallToken
call_with code k = cond (eqb code 47) NoCall (Call code k)

abbrev pub call_parts : Conventions → List ℕ → ℕ → CallToken
call_parts c t k = cond (eqb k 0) Annotation (call_with (call_of c (take k t)) k)

unfoldable pub call_token_of : Conventions → List ℕ → CallToken
call_token_of c t =
    cond (eqb (section_end t) 1) Plus
    (cond (eqb (section_end t) 2) Star
    (cond (is_all_pass t) AllPass (call_parts c t (length (call_part t)))))

-- An annotation of n bytes at p, where there is one.
abbrev pub annotation : ℕ → ℕ → List Entry
annotation p n = cond (ltb 0 n) (entry 7 p n 0 ∷ []) []

-- Bidding so far: whether a token was met, whether a call was made, the end mark (0 none, 1 `+`, 2 `*`), whether the section has
-- stopped, and how many entries it has.
abbrev pub bidding : Bool → ℕ → Bool → ℕ → Bidding
bidding made end stopped count = record { any = true; made = made; end = end; stopped = stopped; count = count }

-- A call of k bytes at p, in a token of len bytes, with its annotation; AP, which is three passes and stops.
abbrev pub call_out : Bidding → ℕ → ℕ → ℕ → ℕ → Out Bidding
call_out b p len k code =
    record {
      state = bidding true b.end false (b.count + suc (length (annotation (p + k) (len - k))));
      entries = entry 6 p k code ∷ annotation (p + k) (len - k);
    }

abbrev pub passes_out : Bidding → ℕ → ℕ → Out Bidding
passes_out b p len = record { state = bidding true b.end true (b.count + 3); entries = entry 6 p len 0 ∷ entry 6 p len 0 ∷ entry 6 p len 0 ∷ [] }

-- `+` is a call that stands for the next one, and the section goes on; `*` stops; an annotation alone goes to the last call, or
-- nowhere; the annotation of a token that is no call is dropped.
abbrev pub called_by : CallToken → Bidding → Piece → Out Bidding
called_by Plus b t = record { state = bidding true 1 false (b.count + 1); entries = entry 6 t.at (length t.bytes) 38 ∷ [] }
called_by Star b t = record { state = bidding b.made 2 true b.count; entries = [] }
called_by AllPass b t = passes_out b t.at (length t.bytes)
called_by Annotation b t =
    cond b.made
    (record { state = bidding true b.end false (b.count + 1); entries = entry 7 t.at (length t.bytes) 0 ∷ [] })
    (record { state = bidding false b.end false b.count; entries = [] })
called_by (Call code k) b t = call_out b t.at (length t.bytes) k code
called_by NoCall b t = record { state = bidding b.made b.end false b.count; entries = [] }

unfoldable pub called : Conventions → Bidding → Piece → Out Bidding
called c b t = cond b.stopped (record { state = b; entries = [] }) (called_by (call_token_of c t.bytes) b t)

-- All tokens of one piece of data.
unfoldable pub called_piece : Conventions → Bidding → Piece → Out Bidding
called_piece c b q = out_all (called c) b (tokens_of q)

abbrev pub no_bidding : Bidding
no_bidding = record { any = false; made = false; end = 0; stopped = false; count = 0 }
