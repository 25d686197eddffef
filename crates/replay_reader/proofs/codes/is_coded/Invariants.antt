-- The codes that are left are the measure.
use Rattle.std.proofs.Common.{length}
use Rattle.replay_reader.proofs.codes.is_coded.Given as goal

abbrev pub decreases-loop-codes : goal.decreases-loop-codes
decreases-loop-codes l = length l.codes.rest.now
