-- The number of each refusal, and what a message says of it. Assumes nothing.
use Rattle.std.specs.Prelude.{ℕ, List, codes}
use Rattle.text.specs.declared.refusals.Refusal.{Refusal}
use Rattle.text.specs.declared.refusals.Refusal.TheVariants.{KindNotInTable, FieldNotUtf8, ForbiddenByte, CannotCarry, NoSpace, TextTooLong, OutOfTurn, BadRow, NameTwice, HomeMissing}

abbrev pub number : Refusal → ℕ
number KindNotInTable = 1
number FieldNotUtf8 = 2
number ForbiddenByte = 3
number CannotCarry = 4
number NoSpace = 5
number TextTooLong = 6
number OutOfTurn = 7
number BadRow = 8
number NameTwice = 9
number HomeMissing = 10

abbrev pub said : Refusal → List ℕ
said KindNotInTable = codes "the table does not know the flag's kind"
said FieldNotUtf8 = codes "a text field is not UTF-8"
said ForbiddenByte = codes "a byte would end its field when it is read back"
said CannotCarry = codes "the sink has no way to write the argument"
said NoSpace = codes "the sink is full"
said TextTooLong = codes "a text has at most 65,535 bytes"
said OutOfTurn = codes "the sink does not allow this call now"
said BadRow = codes "a row of the table is wrong"
said NameTwice = codes "two rows of the table have the same name"
said HomeMissing = codes "a home spelling is missing or has another code"
