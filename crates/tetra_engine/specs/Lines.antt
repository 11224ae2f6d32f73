-- The texts of ends, and the numbers that the program ends with.
use Rattle.std.specs.Prelude.{ℕ, List, [], ◌++◌, codes, decimal}
use Rattle.tetra_settings.specs.declared.types.WordWhy.{WordWhy}
use Rattle.tetra_settings.specs.declared.types.WordWhy.TheVariants.{NoCommand, UnknownCommand, NotPair, UnknownKey, NotHere, Repeated, BadNumber, OutOfRange, UnknownValue, NotUplink}
use Rattle.tetra_records.specs.declared.faults.RecordFault.{RecordFault}
use Rattle.tetra_records.specs.declared.faults.RecordFault.TheVariants.{UnknownKind, WrongKind, PadBit, Truncated}
use Rattle.tetra_engine.specs.declared.status.Status.{Status}
use Rattle.tetra_engine.specs.declared.status.Status.TheVariants.{Done, Refused, Words, Input, Read, Write, TooLong}
use Rattle.tetra_engine.specs.declared.status.End.{End}

abbrev pub word_text : WordWhy → List ℕ
word_text NoCommand = codes "no command"
word_text UnknownCommand = codes "unknown command"
word_text NotPair = codes "not a pair"
word_text UnknownKey = codes "unknown key"
word_text NotHere = codes "not for this command"
word_text Repeated = codes "repeated"
word_text BadNumber = codes "not a number"
word_text OutOfRange = codes "out of range"
word_text UnknownValue = codes "unknown value"
word_text NotUplink = codes "uplink only"

abbrev pub record_text : RecordFault → List ℕ
record_text UnknownKind = codes "unknown kind"
record_text WrongKind = codes "wrong kind"
record_text PadBit = codes "pad bit"
record_text Truncated = codes "truncated"

abbrev pub line_by : Status → ℕ → List ℕ
line_by Done slots = []
line_by (Refused slot count) slots = codes "refused: first slot " ++ decimal slot ++ codes ", count " ++ decimal count
line_by (Words index why) slots = codes "word " ++ decimal index ++ codes ": " ++ word_text why
line_by (Input slot why) slots = codes "input: slot " ++ decimal slot ++ codes ": " ++ record_text why
line_by Read slots = codes "read failed after " ++ decimal slots ++ codes " slots"
line_by Write slots = codes "write failed after " ++ decimal slots ++ codes " slots"
line_by TooLong slots = codes "too long: " ++ decimal slots ++ codes " slots"

-- the line of an end, without a newline
abbrev pub line_of : End → List ℕ
line_of end = line_by end.status end.slots

-- the number that the program ends with
abbrev pub exit_code_of : Status → ℕ
exit_code_of Done = 0
exit_code_of (Refused slot count) = 1
exit_code_of (Words index why) = 2
exit_code_of (Input slot why) = 3
exit_code_of Read = 4
exit_code_of Write = 5
exit_code_of TooLong = 6
