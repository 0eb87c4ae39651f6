mod Adjoining
