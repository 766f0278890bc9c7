-- What was said, and then said on.
use Rattle.std.proofs.Common.{◌≡◌, ℕ, ◌+◌, ◌<◌, ◌≤◌, List, [], ◌++◌, length, get_or, take, Option}
use Rattle.std.proofs.Common.{refl, sym, ap, subst, ◌∙◌, append_assoc, append-nil, add-one}
use Rattle.std.specs.Prelude.{Bool, true, false, Result, Ok, Err, is_err}
use Rattle.std.specs.List.{flat_map}
use Rattle.std.proofs.lemmas.List.{take_all}
use Rattle.rv_text.specs.Said.{Extends, IsSaid, Says}
use Rattle.rv_text.specs.Written.{IsWritten}
use Rattle.rv_text.specs.declared.sink.Sink.{Sink}
use Rattle.rv_text.proofs.Writing.{Appends-both, Appends-nothing, Appends-same, beginning-both, beginning-same}
use Rattle.rv_text.proofs.Writing.{flat_map-more, texts_below, texts_below-more}

said_same : (failed : Bool) (before now : Option (List ℕ)) (xs ys : List ℕ) → xs ≡ ys → IsSaid failed before now xs →
    IsSaid failed before now ys
said_same true before now xs ys same said = beginning-same before now xs ys same said
said_same false before now xs ys same said = Appends-same before now xs ys same said

-- what was said is extended by nothing, by one text after the other, by the same text
pub extends_nothing : (failed : Bool) (known : Option (List ℕ)) → Extends failed failed known known []
extends_nothing failed known =
    record {
      extends = λ before first said. said_same failed before known first (first ++ [])
          (sym (append-nil first)) said;
    }

-- what is extended by a text and then by another is extended by both
pub extends_both : {f g h : Bool} {a b c : Option (List ℕ)} {xs ys : List ℕ} → Extends f g a b xs → Extends g h b c ys →
    Extends f h a c (xs ++ ys)
extends_both {h = h} {c = c} {xs = xs} {ys = ys} one other = record {
  extends = λ before first said.
      said_same h before c ((first ++ xs) ++ ys) (first ++ (xs ++ ys)) (append_assoc first xs ys)
      (other.extends before (first ++ xs) (one.extends before first said));
}

-- what is extended by a text is extended by an equal one
pub extends_same : {f g : Bool} {a b : Option (List ℕ)} {xs ys : List ℕ} → xs ≡ ys → Extends f g a b xs →
    Extends f g a b ys
extends_same same extended = rw same at extended

-- what extends nothing that failed is said
pub extends_whole : {failed : Bool} {old new : Option (List ℕ)} {text : List ℕ} → Extends false failed old new text →
    IsSaid failed old new text
extends_whole {old = old} extended = extended.extends old [] (Appends-nothing old)

module _ {W : Type 0} {contents : W → Option (List ℕ)} where
  -- nothing is said
  pub says_nothing : (a : Sink W) → Says contents a a []
  says_nothing a = record {
    same = refl;
    grows = λ before first said. said_same a.has_failed before (contents a.writer.now) first (first ++ [])
        (sym (append-nil first)) said;
  }

  -- one text after the other
  pub says_both : {a b c : Sink W} {xs ys : List ℕ} → Says contents a b xs → Says contents b c ys →
      Says contents a c (xs ++ ys)
  says_both {c = c} {xs = xs} {ys = ys} one other = record {
    same = other.same ∙ one.same;
    grows = λ before first said.
        said_same c.has_failed before (contents c.writer.now) ((first ++ xs) ++ ys) (first ++ (xs ++ ys))
        (append_assoc first xs ys) (other.grows before (first ++ xs) (one.grows before first said));
  }

  -- the same text
  pub says_same : {a b : Sink W} {xs ys : List ℕ} → xs ≡ ys → Says contents a b xs → Says contents a b ys
  says_same same said = rw same at said

  -- one text more, at a place
  pub says_at : {X : Type 0} {a b c : Sink W} (text : X → List ℕ) (items : List X) (place : ℕ) (other : X) →
      place < length items
      → Says contents a b (flat_map text (take place items)) → Says contents b c (text (get_or items place other)) →
      Says contents a c (flat_map text (take (place + 1) items))
  says_at text items place other here front last = says_same (sym (flat_map-more text items place other here))
      (says_both front last)

  -- one text more, that of a number after those of the numbers below it
  pub says_below : {a b c : Sink W} (text : ℕ → List ℕ) (place : ℕ) → Says contents a b (texts_below text place) →
      Says contents b c (text place) → Says contents a c (texts_below text (place + 1))
  says_below text place front last =
      says_same (sym (ap (texts_below text) (add-one place) ∙ texts_below-more text place)) (says_both front last)

  -- the text of an item more, by its place
  pub says_item : {X : Type 0} {a b c : Sink W} (text : X → List ℕ) (items : List X) (place : ℕ) (item : X) →
      place < length items
      → Says contents a b (flat_map text (take place items)) → Says contents b c (text item) →
      item ≡ get_or items place item → Says contents a c (flat_map text (take (place + 1) items))
  says_item text items place item here front last is =
      says_at text items place item here front (says_same (ap text is) last)

  -- all of the texts
  pub says_all : {X : Type 0} {a b : Sink W} (text : X → List ℕ) (items : List X) (place : ℕ) → length items ≤ place →
      Says contents a b (flat_map text (take place items)) → Says contents a b (flat_map text items)
  says_all text items place past said = says_same (ap (flat_map text) (take_all place items past)) said

  -- what was whole is written on, or a beginning of more
  pub says_more : {T E : Type 0} (r : Result T E) (a b : Sink W) (text : List ℕ) →
      b.writer.ghost_name ≡ a.writer.ghost_name → a.has_failed ≡ false → b.has_failed ≡ is_err r
      → IsWritten r (contents a.writer.now) (contents b.writer.now) text → Says contents a b text
  says_more (Ok done) a b text same whole is wrote =
      record {
        same = same;
        grows = λ before first said. rw is
            (Appends-both before (contents a.writer.now) (contents b.writer.now) first text (rw whole at said) wrote);
      }
  says_more (Err error) a b text same whole is wrote =
      record {
        same = same;
        grows = λ before first said. rw is
            (beginning-both before (contents a.writer.now) (contents b.writer.now) first text (rw whole at said) wrote);
      }

  -- what is written that began with nothing failed
  pub said_whole : {a b : Sink W} {text : List ℕ} → Says contents a b text → a.has_failed ≡ false →
      IsSaid b.has_failed (contents a.writer.now) (contents b.writer.now) text
  said_whole {a = a} says whole =
      says.grows (contents a.writer.now) [] (rw whole (Appends-nothing (contents a.writer.now)))

  -- what is said to a sink extends what its writer held
  pub says_extends : {a b : Sink W} {text : List ℕ} {was is : Bool} {old new : W} → a.has_failed ≡ was →
      a.writer.now ≡ old → is ≡ b.has_failed → new ≡ b.writer.now
      → Says contents a b text → Extends was is (contents old) (contents new) text
  says_extends {a = a} {b = b} {text = text} failed known fails holds says =
      subst (λ (held : Bool × (Bool × (W × W))). Extends held.0 held.1.0 (contents held.1.1.0)
      (contents held.1.1.1) text)
      (λ i. (failed i, (sym fails i, (known i, sym holds i)))) (record { extends = says.grows })

  -- what a call has written that began with nothing failed
  pub says_written : {T E : Type 0} {a b : Sink W} {text : List ℕ} (r : Result T E) → is_err r ≡ b.has_failed →
      a.has_failed ≡ false → Says contents a b text → IsWritten r (contents a.writer.now) (contents b.writer.now) text
  says_written (Ok done) is whole says = rw (sym is) at (said_whole says whole)
  says_written (Err error) is whole says = rw (sym is) at (said_whole says whole)

-- what is said by calls one after the other, and by loops
pub ruleset saying = (says_nothing, says_both, says_at, says_item, says_all)
