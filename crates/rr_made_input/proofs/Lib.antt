mod DrawLaws
mod TextLaws
