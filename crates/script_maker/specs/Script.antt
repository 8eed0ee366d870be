-- The generated script of a number. (This project's rule: a large valid input from one number.)

use Rattle.std.specs.Prelude.{ℕ, zero, suc, ◌+◌, ◌*◌, ◌/◌, ◌%◌, ◌^◌, ◌==◌, List, [], ◌∷◌, ◌++◌, codes, if◌then◌else◌}
use Rattle.std.specs.Fmt.{decimal}
use Rattle.std.specs.List.{flat_map}

-- a draw: the generator's next state, a linear congruence of 64 bits
unfoldable pub drawn : ℕ → ℕ
drawn x = (x * 6364136223846793005 + 1442695040888963407) % 2 ^ 64

-- what a state gives of the numbers below k: by its upper 31 bits
unfoldable pub given_of : ℕ → ℕ → ℕ
given_of k x = (x / 2 ^ 33) % k

-- a line by what was drawn: its kind, below 8, and a key, below 100; and by its number in the script
unfoldable pub drawn_line : ℕ → ℕ → ℕ → List ℕ
drawn_line kind key number =
    if kind == 0 then codes "s1: INSERT INTO C VALUES (" ++ decimal key ++ codes ", 'n" ++ decimal number ++ codes "')"
    else if kind == 1 then codes "s1: UPDATE C SET NAME = 'u" ++ decimal number ++ codes "' WHERE ID = " ++ decimal key
    else if kind == 2 then codes "s1: DELETE FROM C WHERE ID = " ++ decimal key
    else if kind == 3 then codes "s1: SELECT * FROM C WHERE ID = " ++ decimal key
    else if kind == 4 then codes "s1: COMMIT"
    else if kind == 5 then codes "backing: INSERT INTO R VALUES (" ++ decimal key ++ codes ", " ++ decimal number
    ++ codes ")"
    else if kind == 6 then codes "clock: +1000"
    else codes "s1: CALL ttDrain"

-- the line of a number, with the generator in this state: it takes two draws, its kind's and its key's
unfoldable pub line_drawn : ℕ → ℕ → List ℕ
line_drawn number x = drawn_line (given_of 8 (drawn x)) (given_of 100 (drawn (drawn x))) number

-- so many lines, from this number on
unfoldable pub drawn_lines : ℕ → ℕ → ℕ → List (List ℕ)
drawn_lines zero number x = []
drawn_lines (suc count) number x =
    line_drawn number x ∷ drawn_lines count (number + 1) (drawn (drawn x))

-- two tables, a session, and a group over each table
abbrev pub opening : List (List ℕ)
opening =
    codes "backing: CREATE TABLE C (ID TT_INTEGER, NAME VARCHAR2(20), PRIMARY KEY (ID))"
    ∷ codes "backing: CREATE TABLE R (ID TT_INTEGER, V TT_BIGINT, PRIMARY KEY (ID))"
    ∷ codes "s1: OPEN"
    ∷ codes "s1: CREATE ASYNCHRONOUS WRITETHROUGH CACHE GROUP GC FROM C (ID TT_INTEGER, NAME VARCHAR2(20), PRIMARY KEY (ID))"
    ∷ codes "s1: CREATE READONLY CACHE GROUP GR AUTOREFRESH INTERVAL 5 SECONDS FROM R (ID TT_INTEGER, V TT_BIGINT, PRIMARY KEY (ID))"
    ∷ codes "s1: LOAD CACHE GROUP GR"
    ∷ []

-- what is open is committed, and all that is committed is carried to the backing database
abbrev pub closing : List (List ℕ)
closing = codes "s1: COMMIT" ∷ codes "s1: CALL ttDrain" ∷ []

-- The lines of the script of a number: so many are drawn, with the number as the generator's first state.
unfoldable pub script_lines : ℕ → List (List ℕ)
script_lines n = opening ++ drawn_lines n 1 n ++ closing

-- lines as bytes: a line feed ends each
abbrev pub ended : List ℕ → List ℕ
ended line = line ++ 10 ∷ []

abbrev pub bytes_of_lines : List (List ℕ) → List ℕ
bytes_of_lines lines = flat_map ended lines

-- the bytes of the script
abbrev pub script_bytes : ℕ → List ℕ
script_bytes n = bytes_of_lines (script_lines n)
