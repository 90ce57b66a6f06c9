-- `check_types::Sought::hash` meets its contract: way by way.
-- Assumes nothing.
use Rattle.check_types.proofs.Hashes.{bool_hashed, string_hashed, width_hashed, code_hashed, option_hashed, set_hashed, record_hashed}
use Rattle.check_types.proofs.Sought.hash.Goals as goal

pub returns-in-Bool : goal.returns-in-Bool
returns-in-Bool c = λ o W. bool_hashed c.octets.ensures W c.in-Bool.is (rw (c.key-key.ensures, c.letter-letter.ensures) at c.segment_hash.ensures)

pub returns-in-String : goal.returns-in-String
returns-in-String c = λ o W. string_hashed c.octets.ensures W c.in-String.is (rw (c.key-key.ensures, c.letter-letter.ensures) at c.segment_hash-in-String.ensures)

pub returns-in-BitVec : goal.returns-in-BitVec
returns-in-BitVec c = λ o W. width_hashed c.octets.ensures W c.in-BitVec.is c.to_le_bytes.ensures (rw (c.key-key.ensures, c.letter-letter.ensures) at c.segment_hash-in-BitVec.ensures)

pub returns-in-Extension : goal.returns-in-Extension
returns-in-Extension c = λ o W. code_hashed c.octets.ensures W c.in-Extension.is (rw (c.key-key.ensures, c.letter-letter.ensures) at c.segment_hash-in-Extension.ensures)

pub returns-in-Option : goal.returns-in-Option
returns-in-Option c = λ o W. option_hashed c.octets.ensures W c.in-Option.is (rw (c.key-key.ensures, c.letter-letter.ensures) at c.segment_hash-in-Option.ensures)

pub returns-in-Set : goal.returns-in-Set
returns-in-Set c = λ o W. set_hashed c.octets.ensures W c.in-Set.is (rw (c.key-key.ensures, c.letter-letter.ensures) at c.segment_hash-in-Set.ensures)

pub returns-in-Record : goal.returns-in-Record
returns-in-Record c = λ o W. record_hashed c.octets.ensures W c.in-Record.is (rw c.key-key.ensures at c.listed_hash.ensures)
