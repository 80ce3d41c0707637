-- Small numbers by the bit patterns of their f32, for examples. Assumes nothing.
use Rattle.std.specs.Prelude.{ℕ}

abbrev pub 0' : ℕ
0' = 0x00000000

abbrev pub -0' : ℕ
-0' = 0x80000000

abbrev pub half : ℕ
half = 0x3F000000

abbrev pub 1' : ℕ
1' = 0x3F800000

abbrev pub 2' : ℕ
2' = 0x40000000

abbrev pub 3' : ℕ
3' = 0x40400000

abbrev pub 4' : ℕ
4' = 0x40800000

abbrev pub 5' : ℕ
5' = 0x40A00000

abbrev pub -1' : ℕ
-1' = 0xBF800000

abbrev pub -2' : ℕ
-2' = 0xC0000000

abbrev pub -3' : ℕ
-3' = 0xC0400000

abbrev pub -4' : ℕ
-4' = 0xC0800000
