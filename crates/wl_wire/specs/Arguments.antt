-- The arguments of a message in the wire format of the Wayland protocol (the chapter "Wire Format"
-- of its document): a relation between the places of the arguments, the bytes behind the header,
-- and the arguments.
use Rattle.std.specs.Prelude.{◌≡◌, ℕ, ℤ, ◌-◌, ◌%◌, List, [], ◌∷◌, ◌++◌, length, Bool, IsTrue}
use Rattle.std.specs.Int.{cast_signed, w32}
use Rattle.wl_wire.specs.declared.arguments.Arg.{Arg}
use Rattle.wl_wire.specs.declared.arguments.Arg.TheVariants as arg
use Rattle.wl_wire.specs.declared.signature.ArgKind.{ArgKind}
use Rattle.wl_wire.specs.declared.signature.ArgKind.TheVariants as kind
use Rattle.wl_wire.specs.declared.signature.Slot.{Slot}
use Rattle.wl_wire.specs.Wire.{word_at}

-- how many bytes fill so many up to a multiple of four
unfoldable pub padding_of : ℕ → ℕ
padding_of count = (4 - count % 4) % 4

-- the bytes are this word
pub record IsWord (bytes : List ℕ) (value : ℕ) : Type 0 where
  pub four : length bytes ≡ 4
  pub reads : word_at bytes 0 ≡ value

-- the bytes are this signed word, in two's complement
pub record IsSigned (bytes : List ℕ) (value : ℤ) : Type 0 where
  pub four : length bytes ≡ 4
  pub reads : cast_signed w32 (word_at bytes 0) ≡ value

-- a length, so many bytes, and padding, which may hold anything
pub record IsCounted (bytes content : List ℕ) : Type 0 where
  pub count : List ℕ
  pub padding : List ℕ
  pub parts : bytes ≡ count ++ (content ++ padding)
  pub counts : IsWord count (length content)
  pub fills : length padding ≡ padding_of (length content)

-- a string as its bytes before the NUL: the NUL is counted too
abbrev pub IsString : List ℕ → List ℕ → Type 0
IsString bytes text = IsCounted bytes (text ++ 0 ∷ [])

-- what `bind` names: a string, a version and an id
pub record IsBind (bytes interface : List ℕ) (version id : ℕ) : Type 0 where
  pub name : List ℕ
  pub second : List ℕ
  pub third : List ℕ
  pub parts : bytes ≡ name ++ (second ++ third)
  pub names : IsString name interface
  pub versions : IsWord second version
  pub ids : IsWord third id

-- the bytes are this argument, at a place of this kind that allows null or doesn't
abbrev pub IsArg : ArgKind → Bool → List ℕ → Arg → Type 0
IsArg kind.Int null bytes (arg.Int value) = IsSigned bytes value
IsArg kind.Uint null bytes (arg.Uint value) = IsWord bytes value
IsArg kind.Fixed null bytes (arg.Fixed value) = IsSigned bytes value
IsArg kind.Str null bytes (arg.Str text) = IsString bytes text
IsArg kind.Str null bytes arg.NullStr = IsTrue null × IsWord bytes 0
IsArg kind.Object null bytes (arg.Object id) = (id ≡ 0 → IsTrue null) × IsWord bytes id
IsArg kind.NewId null bytes (arg.NewId id) = IsWord bytes id
IsArg kind.Bind null bytes (arg.Bind interface version id) = IsBind bytes interface version id
IsArg kind.Array null bytes (arg.Array content) = IsCounted bytes content
IsArg kind.Handle null bytes arg.Handle = bytes ≡ []
IsArg _ _ _ _ = ⊥

-- the bytes are these arguments, one for each place in order, with nothing left
abbrev pub Spells : List Slot → List ℕ → List Arg → Type 0
Spells [] bytes [] = bytes ≡ []
Spells [] bytes (it ∷ args) = ⊥
Spells (slot ∷ slots) bytes [] = ⊥
Spells (slot ∷ slots) bytes (it ∷ args) =
    (front : List ℕ)
    × ((rest : List ℕ)
    × (bytes ≡ front ++ rest) × IsArg slot.kind slot.null front it × Spells slots rest args)
