-- What became of the fetched words, and how many of the branches and jumps among them were mispredicted.
use Rattle.std.specs.Prelude.{ℕ, ◌+◌, ◌/◌, ◌%◌, ◌==◌, ◌&&◌, Bool, if◌then◌else◌, List}
use Rattle.std.specs.Prelude.{◌++◌, codes, count_by, decimal, length, Option, Some, None}
use Rattle.rv_isa.specs.Instruction.{is_branch_or_jump}
use Rattle.rv_memory.specs.Memory.{word_of}
use Rattle.rv_passage.specs.Passage.{is_retirement, is_squash}
use Rattle.rv_passage.specs.Prediction.{is_mispredicted}
use Rattle.rv_passage.specs.declared.passage.Passage.{Passage}
use Rattle.rv_counts.specs.Counts.{mispredicted_among, one_more, squashed_among}
use Rattle.rv_counts.specs.Passing.{has_left}
use Rattle.rv_sentences.specs.Stack.{parts_of}
use Rattle.rv_sentences.specs.declared.work.{Class.Class, Work.Work}
use Rattle.rv_sentences.specs.declared.work.Class.TheVariants.{Branch, Mispredicted}

-- a branch or a jump retired
abbrev pub is_retired_branch : Passage → Bool
is_retired_branch p = is_retirement p.ending && is_branch_or_jump p.instruction

-- a fetched word is of a class
abbrev pub is_of : Class → Passage → Bool
is_of Branch p = is_retired_branch p
is_of Mispredicted p = is_mispredicted p

-- the word of RAM that a fetched word is, if it is of a class
abbrev pub word_in : Class → Passage → Option ℕ
word_in class p = if is_of class p then Some (word_of p.pc) else None

-- of some instructions that left the hardware: squashed and mispredicted is what a profile counts so
abbrev pub work_of : List Passage → Work
work_of passages = record {
  left = length passages;
  squashed = squashed_among passages;
  branches = count_by is_retired_branch passages;
  mispredicted = mispredicted_among passages;
}

-- that of some instructions and of others
abbrev pub both_work : Work → Work → Work
both_work some others = record {
  left = some.left + others.left;
  squashed = some.squashed + others.squashed;
  branches = some.branches + others.branches;
  mispredicted = some.mispredicted + others.mispredicted;
}

-- with one instruction more, if it left the hardware
abbrev pub work_with : Passage → Work → Work
work_with p work = record {
  left = one_more (has_left p) work.left;
  squashed = one_more (is_squash p.ending) work.squashed;
  branches = one_more (is_retired_branch p) work.branches;
  mispredicted = one_more (is_mispredicted p) work.mispredicted;
}

-- a number of tenths of a percent, in brackets at the end of a line
unfoldable pub percent_text : ℕ → List ℕ
percent_text tenths = codes " (" ++ (decimal (tenths / 10) ++ (codes "." ++ (decimal (tenths % 10) ++ codes "%)\n")))

-- how many of something there were, how many of them were something more, and what part that is, to the nearest tenth of a percent
unfoldable pub part_text : List ℕ → ℕ → List ℕ → ℕ → List ℕ
part_text name all what part =
    name ++ (decimal all ++ (codes ", of them " ++ (decimal part ++ (what ++ percent_text (parts_of 1000 part all)))))

-- the line on the branches and jumps that retired
unfoldable pub branches_text : Work → List ℕ
branches_text work =
    if work.branches == 0 then codes "branches and jumps: none\n"
    else part_text (codes "branches and jumps: ") work.branches (codes " mispredicted") work.mispredicted

-- the lines on the fetched words, of which there were so many, and on the branches and jumps
unfoldable pub work_text : ℕ → Work → List ℕ
work_text fetched work =
    part_text (codes "fetched words: ") fetched (codes " squashed") work.squashed ++ branches_text work
