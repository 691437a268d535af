-- What C is given of the SFDP table: the number returned and what each lent place holds after; every place is written, 0 on a refusal and of what is not there.
use Rattle.std.specs.Prelude.{Option, None, Result, List, ◌≡◌, ℕ, unwrap_or}
use Rattle.std.specs.Result.{result_and, result_unwrap_or}
use Rattle.answers.specs.Answers.{Done, number_of}
use Rattle.answers.specs.declared.Refusal.{Refusal}
use Rattle.sfdp.specs.declared.Contents.{Contents}
use Rattle.sfdp.specs.declared.Version.{Version}
use Rattle.sfdp.specs.declared.Parameter.{Parameter}
use Rattle.sfdp.specs.declared.Slot.{Slot}
use Rattle.sfdp.specs.Sfdp.{contents, version, parameter, slotted, erase_type, TableWritten}

-- the number of a refusal, and 0 where something was read
abbrev pub number_for : {T : Type 0} → Result T Refusal → ℕ
number_for read = number_of (result_and read Done)

-- what was read, or zeros
abbrev pub contents_in : Result Contents Refusal → Contents
contents_in read = result_unwrap_or read (contents 0 0 0)

abbrev pub version_in : Result Version Refusal → Version
version_in read = result_unwrap_or read (version 0 0)

abbrev pub parameter_in : Result (Option Parameter) Refusal → Parameter
parameter_in read = unwrap_or (result_unwrap_or read None) (parameter 0 0 0 0 0)

abbrev pub slot_in : Result (Option Slot) Refusal → Slot
slot_in read = unwrap_or (result_unwrap_or read None) (slotted (erase_type 0 0))

pub record ReadsTable (read : Result Contents Refusal) (number headers density types : ℕ) : Type 0 where
  pub number_is : number ≡ number_for read
  pub headers-is : headers ≡ (contents_in read).headers
  pub density-is : density ≡ (contents_in read).density
  pub types-is : types ≡ (contents_in read).types

pub record ReadsRevision (read : Result Version Refusal) (number minor major : ℕ) : Type 0 where
  pub number_is : number ≡ number_for read
  pub minor-is : minor ≡ (version_in read).minor
  pub major-is : major ≡ (version_in read).major

pub record ReadsHeader (read : Result (Option Parameter) Refusal) (number id minor major words pointer : ℕ) : Type 0 where
  pub number_is : number ≡ number_for read
  pub id-is : id ≡ (parameter_in read).id
  pub minor-is : minor ≡ (parameter_in read).minor
  pub major-is : major ≡ (parameter_in read).major
  pub words-is : words ≡ (parameter_in read).words
  pub pointer_is : pointer ≡ (parameter_in read).pointer

pub record ReadsErase (read : Result (Option Slot) Refusal) (number exponent opcode : ℕ) : Type 0 where
  pub number_is : number ≡ number_for read
  pub exponent-is : exponent ≡ (slot_in read).exponent
  pub opcode-is : opcode ≡ (slot_in read).opcode

pub record WritesTable (w : TableWritten) (number : ℕ) (out : List ℕ) : Type 0 where
  pub number_is : number ≡ number_of w.answer
  pub out-is : out ≡ w.out

-- ---- no second answer: two results of one call that satisfy the contract are equal in every part
abbrev pub OneTable : Type 0
OneTable =
    (c : Result Contents Refusal) (n m a a' b b' d d' : ℕ) → ReadsTable c n a b d → ReadsTable c m a' b' d'
    → (n ≡ m) × (a ≡ a') × (b ≡ b') × (d ≡ d')

abbrev pub OneRevision : Type 0
OneRevision = (v : Result Version Refusal) (n m a a' b b' : ℕ) → ReadsRevision v n a b → ReadsRevision v m a' b' → (n ≡ m) × (a ≡ a') × (b ≡ b')

abbrev pub OneHeader : Type 0
OneHeader =
    (p : Result (Option Parameter) Refusal) (n m a a' b b' c c' d d' e e' : ℕ) → ReadsHeader p n a b c d e → ReadsHeader p m a' b' c' d' e'
    → (n ≡ m) × (a ≡ a') × (b ≡ b') × (c ≡ c') × (d ≡ d') × (e ≡ e')

abbrev pub OneErase : Type 0
OneErase = (s : Result (Option Slot) Refusal) (n m a a' b b' : ℕ) → ReadsErase s n a b → ReadsErase s m a' b' → (n ≡ m) × (a ≡ a') × (b ≡ b')

abbrev pub OneTableWritten : Type 0
OneTableWritten = (w : TableWritten) (n m : ℕ) (xs ys : List ℕ) → WritesTable w n xs → WritesTable w m ys → (n ≡ m) × (xs ≡ ys)
