-- The made input of a seed: a design of eight registers that count by steps of their own, of which the first one to three are
-- wrong by one, and a table of 256 rows with what the right design does. Each line ends with LF.
use Rattle.std.specs.Prelude.{ℕ, zero, suc, ◌+◌, ◌*◌, ◌/◌, ◌%◌, ◌==◌, if◌then◌else◌, List, [], ◌∷◌, ◌++◌, map, flat_map, replicate, codes, decimal, nat_lt}
use Rattle.std.specs.List.{range_with_len}
use Rattle.rr_made_input.specs.Draws.{draw}

-- ---- the steps
-- by which a register counts, from 1 to 254: the first eight draws
abbrev pub step : ℕ → ℕ → ℕ
step seed i = 1 + draw seed i 254

abbrev pub steps : ℕ → List ℕ
steps seed = map (step seed) (range_with_len 0 8)

-- how many registers are faulty, the first ones
abbrev pub faults : ℕ → ℕ
faults seed = 1 + seed % 3

-- the step that the design has in place of it
abbrev pub written : ℕ → ℕ → ℕ
written seed i = if nat_lt i (faults seed) then step seed i + 1 else step seed i

-- ---- the design
abbrev pub hex_digit : ℕ → ℕ
hex_digit d = if nat_lt d 10 then 48 + d else 87 + d

abbrev pub register_text : ℕ → ℕ → List ℕ
register_text i k =
    codes "  always @(posedge clk)\n    if (rst) r" ++ (decimal i ++ (codes " <= 8'h00;\n    else if (en) r" ++ (decimal i ++ (codes " <= r" ++ (decimal i ++ (codes " + 8'h" ++ (hex_digit (k / 16) ∷ (hex_digit (k % 16) ∷ codes ";\n"))))))))

abbrev pub head_text : List ℕ
head_text = codes "module made(input clk, input rst, input en, output reg [7:0] r0, output reg [7:0] r1, output reg [7:0] r2, output reg [7:0] r3, output reg [7:0] r4, output reg [7:0] r5, output reg [7:0] r6, output reg [7:0] r7);\n"

abbrev pub made_design : ℕ → List ℕ
made_design seed = head_text ++ (flat_map (λ i. register_text i (written seed i)) (range_with_len 0 8) ++ codes "endmodule\n")

-- ---- the table
-- the reset of a row: on in the first row, off in the second, and then on where a draw below 32 is 0
unfoldable pub reset : ℕ → ℕ → ℕ
reset seed zero = 1
reset seed (suc zero) = 0
reset seed (suc (suc n)) = if draw seed (8 + 2 * n) 32 == 0 then 1 else 0

-- .. and its enable: off in the first row, on in the second, and then drawn
unfoldable pub enable : ℕ → ℕ → ℕ
enable seed zero = 0
enable seed (suc zero) = 1
enable seed (suc (suc n)) = draw seed (9 + 2 * n) 2

-- a register of 8 bits after a row with such inputs
abbrev pub counted : ℕ → ℕ → ℕ → ℕ → ℕ
counted rst en k v = if rst == 1 then 0 else if en == 1 then (v + k) % 256 else v

unfoldable pub all_counted : ℕ → ℕ → List ℕ → List ℕ → List ℕ
all_counted rst en [] vs = []
all_counted rst en (k ∷ ks) [] = []
all_counted rst en (k ∷ ks) (v ∷ vs) = counted rst en k v ∷ all_counted rst en ks vs

-- the registers of the right design in a row: 0 at first
unfoldable pub registers : ℕ → ℕ → List ℕ
registers seed zero = replicate 8 0
registers seed (suc row) = all_counted (reset seed row) (enable seed row) (steps seed) (registers seed row)

-- numbers with commas between them, and LF
unfoldable pub line_text : List ℕ → List ℕ
line_text [] = []
line_text (n ∷ []) = decimal n ++ codes "\n"
line_text (n ∷ (m ∷ ns)) = decimal n ++ (codes "," ++ line_text (m ∷ ns))

abbrev pub row_text : ℕ → ℕ → List ℕ
row_text seed row = line_text (reset seed row ∷ (enable seed row ∷ registers seed row))

abbrev pub column_text : List ℕ
column_text = codes "rst,en,r0,r1,r2,r3,r4,r5,r6,r7\n"

abbrev pub made_table : ℕ → List ℕ
made_table seed = column_text ++ flat_map (row_text seed) (range_with_len 0 256)
