-- Plain words for document 01's numbers, as bytes of ASCII. Assumes nothing.
use Rattle.std.specs.Prelude.{ℕ, cond, List, [], ◌∷◌, ◌++◌, eqb, length, drop}
use Prim.Native.Char.{code}
use Prim.Native.String.{String, [] as none, ◌∷◌ as ◌then◌}

-- a text's bytes
unfoldable pub bytes_of : String → List ℕ
bytes_of none = []
bytes_of (c then text) = code c ∷ bytes_of text

-- a text at the front of what stood there
unfoldable pub laid : List ℕ → List ℕ → List ℕ
laid text before = text ++ drop (length text) before

-- ---- 01, "Numbers that come back"

-- what a route file is found to be, and any number that is none of 01's
unfoldable pub route_words_of : ℕ → List ℕ
route_words_of number =
    cond (eqb number 20) (bytes_of "not 2 to 4,097 records of 32 bytes")
    (cond (eqb number 21) (bytes_of "not the true start")
    (cond (eqb number 22) (bytes_of "not a permitted step")
    (cond (eqb number 23) (bytes_of "not the true end")
    (bytes_of "a number with no meaning"))))

-- the floor and the question
unfoldable pub floor_words_of : ℕ → List ℕ
floor_words_of number =
    cond (eqb number 2) (bytes_of "the vertex list has a wrong length")
    (cond (eqb number 3) (bytes_of "the polygon list has a wrong length")
    (cond (eqb number 4) (bytes_of "a vertex coordinate is not finite or beyond 16,384")
    (cond (eqb number 5) (bytes_of "a polygon's corners are wrong")
    (cond (eqb number 6) (bytes_of "a polygon's neighbours are wrong")
    (cond (eqb number 7) (bytes_of "the question is not 16 bytes or out of range")
    (cond (eqb number 8) (bytes_of "the start is in no polygon")
    (cond (eqb number 9) (bytes_of "the goal is in no polygon")
    (route_words_of number))))))))

-- the search, and what it finds: the words for a number
unfoldable pub words_of : ℕ → List ℕ
words_of number =
    cond (eqb number 0) (bytes_of "accepted")
    (cond (eqb number 1) (bytes_of "no route was found")
    (cond (eqb number 10) (bytes_of "no room was lent for a node")
    (cond (eqb number 11) (bytes_of "the room for nodes is used up")
    (cond (eqb number 12) (bytes_of "the budget of steps is spent")
    (cond (eqb number 13) (bytes_of "the output is too short")
    (cond (eqb number 14) (bytes_of "the search stalled, and its table is full")
    (floor_words_of number)))))))
