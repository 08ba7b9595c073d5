-- Which turns do an operation, by their answers. Assumes nothing.
use Rattle.std.specs.Prelude.{Bool, true, false}
use Rattle.method.specs.declared.Answer.{Answer}
use Rattle.method.specs.declared.Answer.TheVariants.{Idle, Going, Ended, Refused}

-- a turn with this answer did an operation
abbrev pub operates : Answer → Bool
operates Idle = false
operates Going = true
operates (Ended result own) = true
operates (Refused number) = false
