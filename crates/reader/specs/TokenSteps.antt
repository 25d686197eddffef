-- What holds of a token of an auction, and of a play throughout.
use Rattle.std.specs.Prelude.{ℕ, ◌≤◌}
use Rattle.reader.specs.declared.auction.CallToken.{CallToken}
use Rattle.reader.specs.declared.auction.CallToken.TheVariants.{Plus, Star, AllPass, Annotation, Call, NoCall}
use Rattle.reader.specs.declared.play.Slots.{Slots}
use Rattle.reader.specs.declared.play.Tricks.{Tricks}

-- A call's part of its token lies inside the token, which has n bytes.
abbrev pub CallInside : CallToken → ℕ → Type 0
CallInside Plus n = Unit {0}
CallInside Star n = Unit {0}
CallInside AllPass n = Unit {0}
CallInside Annotation n = Unit {0}
CallInside (Call code k) n = k ≤ n
CallInside NoCall n = Unit {0}

-- What holds of a play throughout: slots and the leader are bytes, the winner and the seats taken at most 4; and of an open trick besides: a seat is left.
pub record Low (s : Slots) : Type 0 where
  pub a_low : s.a ≤ 255
  pub b_low : s.b ≤ 255
  pub c_low : s.c ≤ 255
  pub d_low : s.d ≤ 255

pub record Seated (t : Tricks) : Type 0 where
  pub leader_low : t.leader ≤ 255
  pub winner_low : t.winner ≤ 4
  pub seat_low : t.seat ≤ 4
  pub slots_low : Low t.slots

pub record OpenTrick (t : Tricks) : Type 0 where
  pub seated : Seated t
  pub seat_left : t.seat ≤ 3
