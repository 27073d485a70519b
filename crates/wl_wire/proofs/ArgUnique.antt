-- Bytes are spelled by one list of arguments at most.
use Rattle.std.proofs.Common.{◌≡◌, ℕ, ℤ, ◌+◌, List, [], ◌∷◌, ◌++◌, length, take, drop, Bool, Ok, refl, sym, ap, ◌∙◌, subst, arith, length-append}
use Rattle.std.proofs.lemmas.List.{take_at, drop_at, same_from_push, append-nil}
use Rattle.wl_wire.specs.declared.arguments.Arg.{Arg}
use Rattle.wl_wire.specs.declared.arguments.Arg.TheVariants as arg
use Rattle.wl_wire.specs.declared.signature.ArgKind.{ArgKind}
use Rattle.wl_wire.specs.declared.signature.ArgKind.TheVariants as kind
use Rattle.wl_wire.specs.Wire.{word_at}
use Rattle.wl_wire.specs.Arguments.{IsWord, IsSigned, IsCounted, IsString, IsBind, IsArg, Spells}
use Rattle.wl_wire.specs.ArgFaults.{arg_size}
use Rattle.wl_wire.specs.ArgLaws.{ReadsInOneWay}
use Rattle.wl_wire.proofs.ArgShapes.{HasCounted, has_counted, arg-size}

pub same-word : (bytes : List ℕ) (a b : ℕ) → IsWord bytes a → IsWord bytes b → a ≡ b
same-word bytes a b x y = sym x.reads ∙ y.reads

pub same-signed : (bytes : List ℕ) (a b : ℤ) → IsSigned bytes a → IsSigned bytes b → a ≡ b
same-signed bytes a b x y = sym x.reads ∙ y.reads

-- what is counted is as many bytes as the word says, behind it
pub counted-is : (bytes content : List ℕ) → IsCounted bytes content → content ≡ take (word_at bytes 0) (drop 4 bytes)
counted-is bytes content it =
    let has : HasCounted (bytes ++ []) content (length bytes) = has_counted bytes [] content it in
    let same : bytes ++ [] ≡ bytes = append-nil bytes in
    sym has.behind ∙ ap (λ n. take n (drop 4 (bytes ++ []))) (sym has.counts) ∙ ap (λ list. take (word_at list 0) (drop 4 list)) same

pub same-counted : (bytes a b : List ℕ) → IsCounted bytes a → IsCounted bytes b → a ≡ b
same-counted bytes a b x y = counted-is bytes a x ∙ sym (counted-is bytes b y)

pub same-string : (bytes a b : List ℕ) → IsString bytes a → IsString bytes b → a ≡ b
same-string bytes a b x y = (same_from_push a b 0 0 (same-counted bytes (a ++ 0 ∷ []) (b ++ 0 ∷ []) x y)).0

-- a string isn't null
pub string-some-word : (bytes text : List ℕ) → IsString bytes text → IsWord bytes 0 → ⊥
string-some-word bytes text it none =
    let has : HasCounted (bytes ++ []) (text ++ 0 ∷ []) (length bytes) = has_counted bytes [] (text ++ 0 ∷ []) it in
    let same : word_at (bytes ++ []) 0 ≡ word_at bytes 0 = ap (λ list. word_at list 0) (append-nil bytes) in
    omega (arith, has.counts, none.reads, length-append text (0 ∷ []))

-- two fronts of one length
pub same-front : (a b x y : List ℕ) → a ++ x ≡ b ++ y → length a ≡ length b → a ≡ b
same-front a b x y e sizes = sym (take_at a x (length a) refl) ∙ ap (take (length a)) e ∙ take_at b y (length a) (sym sizes)

pub same-back : (a b x y : List ℕ) → a ++ x ≡ b ++ y → length a ≡ length b → x ≡ y
same-back a b x y e sizes = sym (drop_at a x (length a) refl) ∙ ap (drop (length a)) e ∙ drop_at b y (length a) (sym sizes)

pub same-bind : (bytes name other : List ℕ) (a b c d : ℕ) → IsBind bytes name a b → IsBind bytes other c d → arg.Bind name a b ≡ arg.Bind other c d
same-bind bytes name other a b c d x y =
    let split : x.name ++ (x.second ++ x.third) ≡ y.name ++ (y.second ++ y.third) = sym x.parts ∙ y.parts in
    let lengths : length x.name + (length x.second + length x.third) ≡ length y.name + (length y.second + length y.third) =
    sym (length-append x.name (x.second ++ x.third) ∙ ap (λ n. length x.name + n) (length-append x.second x.third))
    ∙ ap length split ∙ length-append y.name (y.second ++ y.third) ∙ ap (λ n. length y.name + n) (length-append y.second y.third) in
    let sizes : length x.name ≡ length y.name =
    omega (arith, lengths, x.versions.four, x.ids.four, y.versions.four, y.ids.four) in
    let names : x.name ≡ y.name = same-front x.name y.name (x.second ++ x.third) (y.second ++ y.third) split sizes in
    let backs : x.second ++ x.third ≡ y.second ++ y.third = same-back x.name y.name (x.second ++ x.third) (y.second ++ y.third) split sizes in
    let fours : length x.second ≡ length y.second = x.versions.four ∙ sym y.versions.four in
    let seconds : x.second ≡ y.second = same-front x.second y.second x.third y.third backs fours in
    let thirds : x.third ≡ y.third = same-back x.second y.second x.third y.third backs fours in
    let texts : name ≡ other =
    same-string y.name name other (let P : List ℕ → Type 0 = λ list. IsString list name in subst P names x.names) y.names in
    let versions : a ≡ c = sym x.versions.reads ∙ ap (λ list. word_at list 0) seconds ∙ y.versions.reads in
    let ids : b ≡ d = sym x.ids.reads ∙ ap (λ list. word_at list 0) thirds ∙ y.ids.reads in
    ap (λ list. arg.Bind list a b) texts ∙ ap (λ n. arg.Bind other n b) versions ∙ ap (λ n. arg.Bind other c n) ids

-- one argument
pub same-arg : (it : ArgKind) (null : Bool) (bytes : List ℕ) (a b : Arg) → IsArg it null bytes a → IsArg it null bytes b → a ≡ b
same-arg kind.Int null bytes (arg.Int a) (arg.Int b) x y = ap (λ n. arg.Int n) (same-signed bytes a b x y)
same-arg kind.Int null bytes (arg.Int a) _ x y = absurd y
same-arg kind.Int null bytes _ _ x y = absurd x
same-arg kind.Uint null bytes (arg.Uint a) (arg.Uint b) x y = ap (λ n. arg.Uint n) (same-word bytes a b x y)
same-arg kind.Uint null bytes (arg.Uint a) _ x y = absurd y
same-arg kind.Uint null bytes _ _ x y = absurd x
same-arg kind.Fixed null bytes (arg.Fixed a) (arg.Fixed b) x y = ap (λ n. arg.Fixed n) (same-signed bytes a b x y)
same-arg kind.Fixed null bytes (arg.Fixed a) _ x y = absurd y
same-arg kind.Fixed null bytes _ _ x y = absurd x
same-arg kind.Str null bytes (arg.Str a) (arg.Str b) x y = ap (λ list. arg.Str list) (same-string bytes a b x y)
same-arg kind.Str null bytes (arg.Str a) arg.NullStr x y = absurd (string-some-word bytes a x y.1)
same-arg kind.Str null bytes arg.NullStr (arg.Str b) x y = absurd (string-some-word bytes b y x.1)
same-arg kind.Str null bytes arg.NullStr arg.NullStr x y = refl
same-arg kind.Str null bytes (arg.Str a) _ x y = absurd y
same-arg kind.Str null bytes arg.NullStr _ x y = absurd y
same-arg kind.Str null bytes _ _ x y = absurd x
same-arg kind.Object null bytes (arg.Object a) (arg.Object b) x y = ap (λ n. arg.Object n) (same-word bytes a b x.1 y.1)
same-arg kind.Object null bytes (arg.Object a) _ x y = absurd y
same-arg kind.Object null bytes _ _ x y = absurd x
same-arg kind.NewId null bytes (arg.NewId a) (arg.NewId b) x y = ap (λ n. arg.NewId n) (same-word bytes a b x y)
same-arg kind.NewId null bytes (arg.NewId a) _ x y = absurd y
same-arg kind.NewId null bytes _ _ x y = absurd x
same-arg kind.Bind null bytes (arg.Bind i a b) (arg.Bind j c d) x y = same-bind bytes i j a b c d x y
same-arg kind.Bind null bytes (arg.Bind i a b) _ x y = absurd y
same-arg kind.Bind null bytes _ _ x y = absurd x
same-arg kind.Array null bytes (arg.Array a) (arg.Array b) x y = ap (λ list. arg.Array list) (same-counted bytes a b x y)
same-arg kind.Array null bytes (arg.Array a) _ x y = absurd y
same-arg kind.Array null bytes _ _ x y = absurd x
same-arg kind.Handle null bytes arg.Handle arg.Handle x y = refl
same-arg kind.Handle null bytes arg.Handle _ x y = absurd y
same-arg kind.Handle null bytes _ _ x y = absurd x

pub reads-in-one-way : ReadsInOneWay
reads-in-one-way [] bytes [] [] x y = refl
reads-in-one-way [] bytes [] (b ∷ others) x y = absurd y
reads-in-one-way [] bytes (a ∷ args) others x y = absurd x
reads-in-one-way (slot ∷ slots) bytes [] others x y = absurd x
reads-in-one-way (slot ∷ slots) bytes (a ∷ args) [] x y = absurd y
reads-in-one-way (slot ∷ slots) bytes (a ∷ args) (b ∷ others) x y =
    let split : x.0 ++ x.1.0 ≡ y.0 ++ y.1.0 = sym x.1.1 ∙ y.1.1 in
    let one : arg_size slot.kind slot.null (x.0 ++ x.1.0) ≡ Ok (length x.0) = arg-size slot.kind slot.null x.0 x.1.0 a x.1.2 in
    let two : arg_size slot.kind slot.null (y.0 ++ y.1.0) ≡ Ok (length y.0) = arg-size slot.kind slot.null y.0 y.1.0 b y.1.2 in
    let told : arg_size slot.kind slot.null (x.0 ++ x.1.0) ≡ arg_size slot.kind slot.null (y.0 ++ y.1.0) = ap (arg_size slot.kind slot.null) split in
    let sizes : length x.0 ≡ length y.0 = cc in
    let fronts : x.0 ≡ y.0 = same-front x.0 y.0 x.1.0 y.1.0 split sizes in
    let backs : x.1.0 ≡ y.1.0 = same-back x.0 y.0 x.1.0 y.1.0 split sizes in
    let P : List ℕ → Type 0 = λ list. IsArg slot.kind slot.null list a in
    let Q : List ℕ → Type 0 = λ list. Spells slots list args in
    let heads : a ≡ b = same-arg slot.kind slot.null y.0 a b (subst P fronts x.1.2) y.1.2 in
    let tails : args ≡ others = reads-in-one-way slots y.1.0 args others (subst Q backs x.1.3) y.1.3 in
    ap (λ it. it ∷ args) heads ∙ ap (λ them. b ∷ them) tails
