-- A walk from token to token of a text.
use Rattle.std.specs.Prelude.{ℕ, ◌+◌, ◌-◌, ◌≡◌, ◌<◌, List, Option, MatchOption, length, drop}
use Rattle.std.specs.Iterator.{Count, at_most}
use Rattle.tables.specs.Text.{lead, word}
use Rattle.reader.specs.declared.tag.Span.{Span}
use Rattle.reader.specs.declared.tokens.Tokens.{Tokens}

-- Where the next token starts, from the place i on: behind the white space that stands there. And its length, 0 where there is none.
abbrev pub token_start : List ℕ → ℕ → ℕ
token_start text i = i + length (lead (drop i text))

abbrev pub token_len : List ℕ → ℕ → ℕ
token_len text i = length (word (drop (token_start text i) text))

-- The token that comes, and the walk behind it; where no token is left, none comes and the walk stays.
pub record IsNextToken (w : Tokens) (d : Span) (v : Tokens) : Type 0 where
  pub start_is : d.start ≡ token_start w.text.now w.next
  pub len_is : d.len ≡ token_len w.text.now w.next
  pub some_byte : 0 < d.len
  pub walk_is : v ≡ record { text = w.text; next = d.start + d.len }

abbrev pub NextToken : Tokens → Option Span → Tokens → Type 0
NextToken w o v = MatchOption o ((token_len w.text.now w.next ≡ 0) × (v ≡ w)) (λ d. IsNextToken w d v)

-- No more tokens come than bytes.
abbrev pub tokens_room : Tokens → Count
tokens_room w = at_most (length w.text.now - w.next)
