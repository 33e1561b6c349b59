-- Text in ASCII, as a list of bytes.
use Rattle.std.specs.Prelude.{List, [], ◌∷◌, ℕ}
use Prim.Native.Char.{code}
use Prim.Native.String.{String, [] as []ˢ, ◌∷◌ as ◌∷ˢ◌}

abbrev pub text : String → List ℕ
text []ˢ = []
text (c ∷ˢ s) = code c ∷ text s
