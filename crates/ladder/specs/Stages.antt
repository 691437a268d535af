-- The groups of the table that the code goes through, one stage after the other; proofs/Stages.antt shows that they are the one table.
use Rattle.states.specs.declared.Record.{Record}
use Rattle.states.specs.declared.State.{State}
use Rattle.commands.specs.declared.Traits.{Traits}
use Rattle.answers.specs.Answers.{Answer}
use Rattle.answers.specs.Tables.{first_of}
use Rattle.ladder.specs.declared.Head.{Head}
use Rattle.ladder.specs.Ladder.{given_rows, said_rows, heard_rows, write_rows, data_rows, asks}

-- what the call is given, and what a frame is: no row looks at the command
unfoldable pub given_of : Record → State → Head → Answer
given_of rec s h = first_of (given_rows rec s h)

-- what the frame says
unfoldable pub said_of : Record → State → Head → Answer
said_of rec s h = first_of (said_rows rec s h (asks rec h))

unfoldable pub heard_of : Record → State → Head → Traits → Answer
heard_of rec s h k = first_of (heard_rows s h k)

unfoldable pub allowed_of : Record → State → Head → Traits → Answer
allowed_of rec s h k = first_of (write_rows rec s h k)

-- what the cells and the wear table say
unfoldable pub data_of : Record → State → Head → Answer
data_of rec s h = first_of (data_rows h)
