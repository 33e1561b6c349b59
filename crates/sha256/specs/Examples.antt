-- Digests that are known: of the three bytes "abc" (the example of FIPS 180-4), and of no bytes. antt computes both.
use Rattle.std.specs.Prelude.{◌≡◌, [], ◌∷◌, refl}
use Rattle.sha256.specs.Sha256.{sha256, rotate_right, big_sigma0, big_sigma1, small_sigma0, small_sigma1, constants, bytes_of, padding, padded, block, word_at, words, next_word, with_next, extended, schedule, temporary1, temporary2, round, rounds, sum, compress, blocks, bytes_of_words, digest}

known : (sha256 (97 ∷ 98 ∷ 99 ∷ []) ≡ 186 ∷ 120 ∷ 22 ∷ 191 ∷ 143 ∷ 1 ∷ 207 ∷ 234 ∷ 65 ∷ 65 ∷ 64 ∷ 222 ∷ 93 ∷ 174 ∷ 34 ∷ 35 ∷ 176 ∷ 3 ∷ 97 ∷ 163 ∷ 150 ∷ 23 ∷ 122 ∷ 156 ∷ 180 ∷ 16 ∷ 255 ∷ 97 ∷ 242 ∷ 0 ∷ 21 ∷ 173 ∷ []) × (sha256 [] ≡ 227 ∷ 176 ∷ 196 ∷ 66 ∷ 152 ∷ 252 ∷ 28 ∷ 20 ∷ 154 ∷ 251 ∷ 244 ∷ 200 ∷ 153 ∷ 111 ∷ 185 ∷ 36 ∷ 39 ∷ 174 ∷ 65 ∷ 228 ∷ 100 ∷ 155 ∷ 147 ∷ 76 ∷ 164 ∷ 149 ∷ 153 ∷ 27 ∷ 120 ∷ 82 ∷ 184 ∷ 85 ∷ [])
unfolding sha256 rotate_right big_sigma0 big_sigma1 small_sigma0 small_sigma1 constants bytes_of padding padded block word_at words next_word with_next extended schedule temporary1 temporary2 round rounds sum compress blocks bytes_of_words digest
known = (refl, refl)
