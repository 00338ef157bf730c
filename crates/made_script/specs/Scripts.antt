-- The generated script of a seed.
use Rattle.std.specs.Prelude.{ℕ, zero, suc, ◌+◌, ◌*◌, ◌%◌, ◌==◌, if◌then◌else◌, List, [], ◌++◌, codes, decimal}
use Rattle.made_script.specs.Draws.{drawn_after}

-- a command of some kind over two numbers, which stores under the letter `m` and the command's number
abbrev pub command_text : ℕ → ℕ → ℕ → ℕ → List ℕ
command_text number kind one two =
    if kind == 0 then codes "eval m" ++ decimal number ++ codes " \"Ex x+x=" ++ decimal one ++ codes "\";\n"
    else (if kind == 1 then codes "eval m" ++ decimal number ++ codes " \"Ex T[x+" ++ decimal one ++ codes "]=T[x+" ++ decimal two ++ codes "] & x<8\";\n"
    else (if kind == 2 then codes "eval m" ++ decimal number ++ codes " \"?msd_fib Ex F[x+" ++ decimal one ++ codes "]=@1 & x<2\";\n"
    else codes "def m" ++ decimal number ++ codes " \"T[x+" ++ decimal one ++ codes "]=@1 & x<" ++ decimal two ++ codes "\";\n"))

-- the command after so many others: three numbers are drawn for each, the first for its kind
abbrev pub command_after : ℕ → ℕ → List ℕ
command_after seed count = command_text (count + 1) (drawn_after seed (3 * count) % 4) (drawn_after seed (3 * count + 1) % 1000) (drawn_after seed (3 * count + 2) % 1000)

-- the first of these commands, one after another
abbrev pub commands : ℕ → ℕ → List ℕ
commands seed zero = []
commands seed (suc count) = commands seed count ++ command_after seed count

-- the commands that the others use: the Thue-Morse word, and the Fibonacci numbers
abbrev pub first_commands : List ℕ
first_commands = codes "morphism h \"0->01 1->10\";\npromote T h;\nreg f1 msd_fib \"(0|1)*1\";\ncombine F f1=1;\n"

-- the whole script, of 200 commands
abbrev pub script_text : ℕ → List ℕ
script_text seed = first_commands ++ commands seed 196
