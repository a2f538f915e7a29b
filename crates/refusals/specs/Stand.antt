-- The fifteen refusals with their numbers and layers, each written out, and the three layers with their numbers.
use Rattle.std.specs.Prelude.{◌≡◌, ℕ, Some, None, Option}
use Rattle.refusals.specs.Numbers.{number_of, layer_of, layer_number}
use Rattle.refusals.specs.declared.Refusal.{Refusal}
use Rattle.refusals.specs.declared.Refusal.TheVariants.{
  BufferShort,
  BlockSize,
  BlockCheck,
  BlockForm,
  JobDiffers,
  NotACode,
  PastEnd,
  SlotRange,
  FirstByte,
  LineForm,
  LineOrder,
  OutOfRange,
  BadPair,
  SheetShort,
  SheetLong,
}
use Rattle.refusals.specs.declared.layer.Layer.TheVariants.{Items, Lines, SetUp}

-- a refusal is sent back with a number, and as a sheet's fault it is found by a layer, or it is no sheet's
abbrev pub Has : Refusal → ℕ → Option ℕ → Type 0
Has refusal number layer = (number_of refusal ≡ number) × (layer_of refusal ≡ layer)

pub record NumbersStand : Type 0 where
  pub buffer_too_short : Has BufferShort 1 None
  pub block_not_of_512_bytes : Has BlockSize 2 None
  pub check_disagrees : Has BlockCheck 3 None
  pub block_malformed : Has BlockForm 4 None
  pub job_differs : Has JobDiffers 5 None
  pub not_a_code : Has NotACode 6 None
  pub past_the_end : Has PastEnd 7 None
  pub slot_out_of_range : Has SlotRange 8 None
  pub wrong_first_byte : Has FirstByte 9 (Some 1)
  pub line_malformed : Has LineForm 10 (Some 1)
  pub line_out_of_place : Has LineOrder 11 (Some 2)
  pub number_out_of_range : Has OutOfRange 12 (Some 3)
  pub bad_pair : Has BadPair 13 (Some 3)
  pub sheet_stops_early : Has SheetShort 14 (Some 2)
  pub sheet_too_long : Has SheetLong 15 (Some 1)
  pub items_layer : layer_number Items ≡ 1
  pub lines_layer : layer_number Lines ≡ 2
  pub set_up_layer : layer_number SetUp ≡ 3
