-- A command is drawn by three numbers.
use Rattle.std.proofs.Common.{◌≡◌, ℕ, suc, ◌+◌, ◌*◌, ◌/◌, ◌%◌, ◌^◌, List, ◌++◌, sym, ap, ◌∙◌, arith}
use Rattle.std.proofs.lemmas.List.{append_assoc}
use Rattle.made_script.specs.Draws.{next_state, state_after, drawn_after}
use Rattle.made_script.specs.Scripts.{command_text, command_after, commands, first_commands}

-- one number more
drawn_at : (seed count before after number : ℕ) → before ≡ state_after seed count → after ≡ next_state before → number ≡ next_state before / 2 ^ 33 → (after ≡ state_after seed (suc count)) × (number ≡ drawn_after seed count)
drawn_at seed count before after number is state value = (state ∙ ap next_state is, value ∙ ap (λ (s : ℕ). next_state s / 2 ^ 33) is)

more : (n : ℕ) → n + 1 ≡ suc n
more n = omega arith

pub command_drawn : (seed count s0 s1 s2 s3 kind one two : ℕ) → s0 ≡ state_after seed (3 * count) → s1 ≡ next_state s0 → kind ≡ next_state s0 / 2 ^ 33 → s2 ≡ next_state s1 → one ≡ next_state s1 / 2 ^ 33 → s3 ≡ next_state s2 → two ≡ next_state s2 / 2 ^ 33
    → (command_text (count + 1) (kind % 4) (one % 1000) (two % 1000) ≡ command_after seed count) × (s3 ≡ state_after seed (3 * (count + 1)))
command_drawn seed count s0 s1 s2 s3 kind one two is state value state' value' state'' value'' =
    let first = drawn_at seed (3 * count) s0 s1 kind is state value in
    let second = drawn_at seed (3 * count + 1) s1 s2 one (first.0 ∙ ap (state_after seed) (sym (more (3 * count)))) state' value' in
    let third_draw : suc (3 * count + 1) ≡ 3 * count + 2 = omega arith in
    let third = drawn_at seed (3 * count + 2) s2 s3 two (second.0 ∙ ap (state_after seed) third_draw) state'' value'' in
    let all : suc (3 * count + 2) ≡ 3 * (count + 1) = omega arith in
    ((λ i. command_text (count + 1) (first.1 i % 4) (second.1 i % 1000) (third.1 i % 1000)), third.0 ∙ ap (state_after seed) all)

-- one command more
pub commands_more : (seed count : ℕ) (text command : List ℕ) → text ≡ first_commands ++ commands seed count → command ≡ command_after seed count → text ++ command ≡ first_commands ++ commands seed (count + 1)
commands_more seed count text command is last =
    (λ i. is i ++ last i) ∙ (append_assoc first_commands (commands seed count) (command_after seed count) ∙ ap (λ (n : ℕ). first_commands ++ commands seed n) (sym (more count)))
