-- The grammar of the link's frames: which frames there are and the one spelling of each in bytes;
-- it is this project's own, and the messages in a PROTOCOL frame are those of the Wayland wire
-- format.
use Rattle.std.specs.Prelude.{◌≡◌, ℕ, ◌+◌, ◌-◌, ◌*◌, ◌/◌, ◌%◌, ◌<◌, ◌≤◌, ◌==◌, if◌then◌else◌, true}
use Rattle.std.specs.Prelude.{false, List, [], ◌++◌, length, replicate, Option, Some, None}
use Rattle.std.specs.List.{flat_map, AllByRecursion}
use Rattle.wl_wire.specs.Wire.{cut_rest}
use Rattle.transfer_frames.specs.declared.frame.TheConstants.{LARGEST_FRAME, LONGEST_TRANSFER}
use Rattle.transfer_frames.specs.declared.frame.Frame.{Frame}
use Rattle.transfer_frames.specs.declared.frame.Frame.TheVariants.{Protocol, Inject, OpenFile}
use Rattle.transfer_frames.specs.declared.frame.Frame.TheVariants.{ExtendFile, Fill, OpenPipe}
use Rattle.transfer_frames.specs.declared.frame.Frame.TheVariants.{PipeTransfer, PipeShutR}
use Rattle.transfer_frames.specs.declared.frame.Frame.TheVariants.{PipeShutW, Ack, Restart, Close}
use Rattle.transfer_frames.specs.declared.frame.FrameRole.{FrameRole}
use Rattle.transfer_frames.specs.declared.frame.FrameRole.TheVariants.{Counted, Tells, Greets}
use Rattle.transfer_frames.specs.declared.kinds.FrameType.{FrameType}
use Rattle.transfer_frames.specs.declared.kinds.FrameType.TheVariants as types
use Rattle.transfer_frames.specs.Numbers.{word_bytes, long_bytes, rid_bytes, IsWord, IsLong, IsRid}

-- ---- the types

abbrev pub type_number : FrameType → ℕ
type_number types.Protocol = 0
type_number types.Inject = 1
type_number types.OpenFile = 2
type_number types.ExtendFile = 3
type_number types.Fill = 5
type_number types.OpenPipe = 8
type_number types.PipeTransfer = 10
type_number types.PipeShutR = 11
type_number types.PipeShutW = 12
type_number types.Ack = 16
type_number types.Restart = 17
type_number types.Close = 18

-- the type that has a number
unfoldable pub type_at : ℕ → Option FrameType
type_at n =
    if n == 0 then Some types.Protocol else
    if n == 1 then Some types.Inject else
    if n == 2 then Some types.OpenFile else
    if n == 3 then Some types.ExtendFile else
    if n == 5 then Some types.Fill else
    if n == 8 then Some types.OpenPipe else
    if n == 10 then Some types.PipeTransfer else
    if n == 11 then Some types.PipeShutR else
    if n == 12 then Some types.PipeShutW else
    if n == 16 then Some types.Ack else
    if n == 17 then Some types.Restart else
    if n == 18 then Some types.Close else None

abbrev pub type_of : Frame → FrameType
type_of (Protocol messages) = types.Protocol
type_of (Inject rids) = types.Inject
type_of (OpenFile rid size) = types.OpenFile
type_of (ExtendFile rid size) = types.ExtendFile
type_of (Fill rid start end bytes) = types.Fill
type_of (OpenPipe rid) = types.OpenPipe
type_of (PipeTransfer rid bytes) = types.PipeTransfer
type_of (PipeShutR rid) = types.PipeShutR
type_of (PipeShutW rid) = types.PipeShutW
type_of (Ack count) = types.Ack
type_of (Restart token connection received) = types.Restart
type_of (Close reason) = types.Close

-- ---- the spelling

abbrev pub body : Frame → List ℕ
body (Protocol messages) = messages
body (Inject rids) = flat_map rid_bytes rids
body (OpenFile rid size) = rid_bytes rid ++ word_bytes size
body (ExtendFile rid size) = rid_bytes rid ++ word_bytes size
body (Fill rid start end bytes) = rid_bytes rid ++ (word_bytes start ++ (word_bytes end ++ bytes))
body (OpenPipe rid) = rid_bytes rid
body (PipeTransfer rid bytes) = rid_bytes rid ++ bytes
body (PipeShutR rid) = rid_bytes rid
body (PipeShutW rid) = rid_bytes rid
body (Ack count) = long_bytes count
body (Restart token connection received) = token ++ (word_bytes connection ++ long_bytes received)
body (Close reason) = word_bytes reason

-- how many bytes a body has, by its type
abbrev pub body_length : Frame → ℕ
body_length (Protocol messages) = length messages
body_length (Inject rids) = 4 * length rids
body_length (OpenFile rid size) = 8
body_length (ExtendFile rid size) = 8
body_length (Fill rid start end bytes) = 12 + length bytes
body_length (OpenPipe rid) = 4
body_length (PipeTransfer rid bytes) = 4 + length bytes
body_length (PipeShutR rid) = 4
body_length (PipeShutW rid) = 4
body_length (Ack count) = 8
body_length (Restart token connection received) = 28
body_length (Close reason) = 4

-- a size counts the first word and the body, not the padding
abbrev pub size : Frame → ℕ
size frame = 4 + length (body frame)

abbrev pub first_word : Frame → ℕ
first_word frame = size frame * 32 + type_number (type_of frame)

-- a size with its padding: the next multiple of four
abbrev pub padded : ℕ → ℕ
padded n = (n + 3) / 4 * 4

abbrev pub padding : Frame → List ℕ
padding frame = replicate (padded (size frame) - size frame) 0

-- the first word, the body, and zeros up to a multiple of four
unfoldable pub spelling : Frame → List ℕ
spelling frame = word_bytes (first_word frame) ++ (body frame ++ padding frame)

-- ---- what is in the grammar

-- whole Wayland messages, one after the other
abbrev pub AreMessages : List ℕ → Type 0
AreMessages bytes = cut_rest bytes ≡ []

-- whole blocks of 64 bytes, one or more
abbrev pub IsRange : ℕ → ℕ → ℕ → Type 0
IsRange start end count = (start % 64 ≡ 0) × (end % 64 ≡ 0) × (start < end) × (end ≡ start + count)

-- the fields have values that their places hold, and the bytes are as many as they may be
abbrev pub HasFields : Frame → Type 0
HasFields (Protocol messages) = (8 ≤ length messages) × AreMessages messages
HasFields (Inject rids) = (0 < length rids) × AllByRecursion IsRid rids
HasFields (OpenFile rid size) = IsRid rid × IsWord size
HasFields (ExtendFile rid size) = IsRid rid × IsWord size
HasFields (Fill rid start end bytes) = IsRid rid × IsWord end × IsRange start end (length bytes)
HasFields (OpenPipe rid) = IsRid rid
HasFields (PipeTransfer rid bytes) =
    IsRid rid × (1 ≤ length bytes) × (length bytes ≤ LONGEST_TRANSFER)
HasFields (PipeShutR rid) = IsRid rid
HasFields (PipeShutW rid) = IsRid rid
HasFields (Ack count) = IsLong count
HasFields (Restart token connection received) =
    (length token ≡ 16) × IsWord connection × IsLong received
HasFields (Close reason) = IsWord reason

-- the frame is in the grammar
pub record IsFrame (frame : Frame) : Type 0 where
  pub fields : HasFields frame
  pub fits : size frame ≤ LARGEST_FRAME

-- the bytes are the frame's spelling
abbrev pub Spells : Frame → List ℕ → Type 0
Spells frame bytes = IsFrame frame × (bytes ≡ spelling frame)

-- ---- the part that a frame has on its connection

abbrev pub role : Frame → FrameRole
role (Ack count) = Tells count
role (Restart token connection received) = Greets token connection received
role (Close reason) = Counted true
role frame = Counted false

-- it greets or tells a count
abbrev pub IsReply : Frame → Type 0
IsReply (Ack count) = Unit {0}
IsReply (Restart token connection received) = Unit {0}
IsReply frame = ⊥
