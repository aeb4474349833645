-- The words of a script, and its numbers.
use Rattle.std.specs.Prelude.{ℕ, ◌+◌, ◌-◌, ◌*◌, cond, ◌&&◌, List, [], ◌∷◌, length, Some, None, codes, Option, nat_le}
use Rattle.std.specs.Str.{bytes_eq}
use Rattle.script.specs.declared.words.Word.{Word}
use Rattle.script.specs.declared.words.Word.TheVariants.{Line, Local, Put, Get, LocalPut, LocalGet, Mask, Take, Ack, Back, Reset}

abbrev pub name : Word → List ℕ
name Line = codes "line"
name Local = codes "local"
name Put = codes "put"
name Get = codes "get"
name LocalPut = codes "lput"
name LocalGet = codes "lget"
name Mask = codes "mask"
name Take = codes "take"
name Ack = codes "ack"
name Back = codes "back"
name Reset = codes "reset"

abbrev pub among : List Word → List ℕ → Option Word
among [] t = None
among (w ∷ ws) t = cond (bytes_eq t (name w)) (Some w) (among ws t)

-- all words
abbrev pub words : List Word
words = Line ∷ Local ∷ Put ∷ Get ∷ LocalPut ∷ LocalGet ∷ Mask ∷ Take ∷ Ack ∷ Back ∷ Reset ∷ []

-- the word that a text spells
abbrev pub spelled : List ℕ → Option Word
spelled = among words

-- how many fields follow the word
abbrev pub arity : Word → ℕ
arity Line = 2
arity Local = 2
arity Put = 2
arity Get = 1
arity LocalPut = 2
arity LocalGet = 1
arity Mask = 1
arity Take = 0
arity Ack = 0
arity Back = 1
arity Reset = 0

-- decimal digits, read after the number so far; the digits 0 to 9 are bytes 48 to 57
abbrev pub read : ℕ → List ℕ → Option ℕ
read n [] = Some n
read n (d ∷ ds) = cond (nat_le 48 d && nat_le d 57) (read (n * 10 + (d - 48)) ds) None

abbrev pub capped : ℕ → Option ℕ → Option ℕ
capped top None = None
capped top (Some n) = cond (nat_le n top) (Some n) None

-- one to three digits, of a number up to top
unfoldable pub numeral : ℕ → List ℕ → Option ℕ
numeral top ds = cond (nat_le 1 (length ds) && nat_le (length ds) 3) (capped top (read 0 ds)) None
