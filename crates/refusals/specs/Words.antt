-- The words that each refusal is told in.
use Rattle.std.specs.Prelude.{ℕ, List, codes}
use Rattle.refusals.specs.declared.Refusal.{Refusal}
use Rattle.refusals.specs.declared.Refusal.TheVariants.{
  BufferShort,
  BlockSize,
  BlockCheck,
  BlockForm,
  JobDiffers,
  NotACode,
  PastEnd,
  SlotRange,
  FirstByte,
  LineForm,
  LineOrder,
  OutOfRange,
  BadPair,
  SheetShort,
  SheetLong,
}

abbrev pub refusal_text : Refusal → List ℕ
refusal_text BufferShort = codes "the buffer is too short"
refusal_text BlockSize = codes "the block has not 512 bytes"
refusal_text BlockCheck = codes "the block's check disagrees with its bytes"
refusal_text BlockForm = codes "the block's head or filling is malformed"
refusal_text JobDiffers = codes "the block was saved under another job number"
refusal_text NotACode = codes "the bytes are not the code of an object"
refusal_text PastEnd = codes "the census is past the end"
refusal_text SlotRange = codes "the slot's number is the width or more"
refusal_text FirstByte = codes "a line is empty or begins with another byte"
refusal_text LineForm = codes "the rest of a line is malformed"
refusal_text LineOrder = codes "a line is out of place"
refusal_text OutOfRange = codes "a number is out of range"
refusal_text BadPair = codes "a pair is of one region with itself, or of a polygon"
refusal_text SheetShort = codes "the sheet stops early"
refusal_text SheetLong = codes "the sheet is too long"
