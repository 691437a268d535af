-- The answers and their numbers: 01, "Numbers returned, in order of checking", Req 04 to 08, Req 11 and Req 12.
use Rattle.std.specs.Prelude.{Bool, ℕ, eqb, Result, Ok, Err, is_ok, ⊤}
use Rattle.answers.specs.declared.Refusal.{Refusal}
use Rattle.answers.specs.declared.Refusal.TheVariants.{BadRecord, BadArray, BadState, BadFrame, ShortOut, Empty, Settling, Busy, Asleep, NoCommand, BadLength, NotEnabled, Locked, Protected, BadPattern, BadTable, WornOut, NotErased, BadLine, Withdrawn, NoSignature, BadHeader, BadPointer, BadEntry, InHold}

abbrev pub number : Refusal → ℕ
number BadRecord = 1
number BadArray = 2
number BadState = 3
number BadFrame = 4
number ShortOut = 5
number Empty = 10
number Busy = 11
number Asleep = 12
number NoCommand = 13
number BadLength = 14
number NotEnabled = 15
number Locked = 16
number Protected = 17
number Settling = 22
number BadPattern = 23
number BadTable = 24
number WornOut = 25
number NotErased = 19
number BadLine = 20
number Withdrawn = 21
number NoSignature = 30
number BadHeader = 31
number BadPointer = 32
number BadEntry = 33
number InHold = 34

-- what a call is answered: that it is done, or the first refusal that applies
abbrev pub Answer : Type 0
Answer = Result ⊤ Refusal

abbrev pub Done : Answer
Done = Ok (record {})

abbrev pub number_of : Answer → ℕ
number_of (Ok x) = 0
number_of (Err r) = number r

-- nothing was refused
abbrev pub is_done : Answer → Bool
is_done a = is_ok a

-- the unit is protected
abbrev pub says_protected : Answer → Bool
says_protected a = eqb (number_of a) 17
