-- After which answers the state may differ.
use Rattle.std.specs.Prelude.{Bool, ◌||◌}
use Rattle.answers.specs.Answers.{Answer, is_done, says_protected}

-- the answers after which the state may differ: 0, and 17 where it clears WEL
abbrev pub may_move : Answer → Bool
may_move a = is_done a || says_protected a
