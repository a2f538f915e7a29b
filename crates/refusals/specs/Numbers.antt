-- The number that each refusal is sent back with, and for the faults of a sheet the layer that
-- finds them: 1 items, 2 lines, 3 set-up.
use Rattle.std.specs.Prelude.{ℕ, Some, None, Option}
use Rattle.refusals.specs.declared.Refusal.{Refusal}
use Rattle.refusals.specs.declared.Refusal.TheVariants.{
  BufferShort,
  BlockSize,
  BlockCheck,
  BlockForm,
  JobDiffers,
  NotACode,
  PastEnd,
  SlotRange,
  FirstByte,
  LineForm,
  LineOrder,
  OutOfRange,
  BadPair,
  SheetShort,
  SheetLong,
}
use Rattle.refusals.specs.declared.layer.Layer.{Layer}
use Rattle.refusals.specs.declared.layer.Layer.TheVariants.{Items, Lines, SetUp}

abbrev pub number_of : Refusal → ℕ
number_of BufferShort = 1
number_of BlockSize = 2
number_of BlockCheck = 3
number_of BlockForm = 4
number_of JobDiffers = 5
number_of NotACode = 6
number_of PastEnd = 7
number_of SlotRange = 8
number_of FirstByte = 9
number_of LineForm = 10
number_of LineOrder = 11
number_of OutOfRange = 12
number_of BadPair = 13
number_of SheetShort = 14
number_of SheetLong = 15

abbrev pub layer_of : Refusal → Option ℕ
layer_of BufferShort = None
layer_of BlockSize = None
layer_of BlockCheck = None
layer_of BlockForm = None
layer_of JobDiffers = None
layer_of NotACode = None
layer_of PastEnd = None
layer_of SlotRange = None
layer_of FirstByte = Some 1
layer_of LineForm = Some 1
layer_of LineOrder = Some 2
layer_of OutOfRange = Some 3
layer_of BadPair = Some 3
layer_of SheetShort = Some 2
layer_of SheetLong = Some 1

abbrev pub layer_number : Layer → ℕ
layer_number Items = 1
layer_number Lines = 2
layer_number SetUp = 3
