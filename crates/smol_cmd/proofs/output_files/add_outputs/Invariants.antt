use Rattle.std.proofs.Common.{◌≡◌, ◌++◌, drop}
use Rattle.smol_text.specs.Reading.{words_of}
use Rattle.smol_line.specs.Names.{names_fault}
use Rattle.smol_cmd.specs.OutputFiles.{file_names, given_names, output_fault}
use Rattle.smol_cmd.proofs.output_files.add_outputs.Given as goal

-- the names so far come before those of the other words
abbrev pub invariant-loop-i : goal.invariant-loop-i
invariant-loop-i l = record {
  names : l.outputs ++ file_names (drop l.i (words_of l.line)) ≡ l.initial.outputs ++ given_names l.line;
  rest : names_fault output_fault l.initial.outputs (given_names l.line) ≡ names_fault output_fault l.outputs (file_names (drop l.i (words_of l.line)));
}
