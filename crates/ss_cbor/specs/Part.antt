-- The part that a value of the code stands for.
use Rattle.std.specs.Prelude.{Option, Some, None}
use Rattle.ss_cbor.specs.Item as item
use Rattle.ss_cbor.specs.{declared.item.Item.Item, declared.raw_part.RawPart.RawPart}

abbrev pub raw_part_of : RawPart → item.Part
raw_part_of (RawPart.Uint n) = item.uint n
raw_part_of (RawPart.Nint n) = item.nint n
raw_part_of (RawPart.Blob b) = item.blob b.now
raw_part_of (RawPart.Text b) = item.text b.now
raw_part_of (RawPart.Array n) = item.array n
raw_part_of (RawPart.Map n) = item.map n
raw_part_of (RawPart.Link cid) = item.link cid.now
raw_part_of RawPart.Float = item.float
raw_part_of (RawPart.Bool b) = item.bool b
raw_part_of RawPart.Null = item.null

abbrev pub raw_piece_of : Option RawPart → Option item.Part
raw_piece_of (Some part) = Some (raw_part_of part)
raw_piece_of None = None

abbrev pub part_of : Item → item.Part
part_of (Item.Uint n) = item.uint n
part_of (Item.Nint n) = item.nint n
part_of (Item.Blob b) = item.blob b.now
part_of (Item.Text b) = item.text b.now
part_of (Item.Array n) = item.array n
part_of (Item.Map n) = item.map n
part_of (Item.Link cid) = item.link cid
part_of Item.Float = item.float
part_of (Item.Bool b) = item.bool b
part_of Item.Null = item.null
